-- Demand 3 in the customer's sentences, of what decoding leaves; document 01's own form of it, the first n of the row, is `FirstOfRow`. A word
-- is its print bytes, a state path is the literal one, and the list is read back from the output's bytes (document 01, State paths and hits).
-- Assumes nothing.
use Rattle.std.specs.Prelude.{ℕ, ◌-◌, ◌≤◌, ◌<◌, ◌≡◌, ◌⊎◌, ℤ, pos, ◌≤ℤ◌, length, get_or, take}
use mathlib.Core.List.{List, [], Memᴰ}
use Rattle.call.specs.Table.{Answer, value}
use Rattle.voice.specs.Voice.{letter_count}
use Rattle.graph.specs.Graph.{Graph, graph_of, word_count}
use Rattle.graph.specs.Words.{spelled, LexiconWord, word_of_code}
use Rattle.graph.specs.Checking.{Accepted}
use Rattle.ranking.specs.Hits.{Hit, hit, ◌≻◌, hits_read}
use Rattle.decoder.specs.StatePaths.{Attains}
use Rattle.decoder.specs.Decoding.{decode_answer, decode_out}

-- the i-th hit of a list, from 0
abbrev pub hit_at : List Hit → ℕ → Hit
hit_at hs i = get_or hs i (hit (pos 0) 0)

-- no two words of a list are the same
abbrev pub Different : List (List ℕ) → Type 0
Different ws = (i j : ℕ) → i < j → j < length ws → ¬ (get_or ws i [] ≡ get_or ws j [])

module _ (v : List ℕ) (g : Graph) (frames : List ℕ) where
  -- some letters of the model spell the word, and a is the score of a permitted state path of theirs
  pub record Scores (word : List ℕ) (a : ℤ) : Type 0 where
    pub letters : List ℕ
    pub known : (l : ℕ) → Memᴰ l letters → l < letter_count v
    pub spells : spelled v letters ≡ word
    pub attained : Attains v letters frames a

  -- the word has a permitted state path; it has none
  abbrev pub HasPath : List ℕ → Type 0
  HasPath word = (a : ℤ) × Scores word a

  abbrev pub HasNoPath : List ℕ → Type 0
  HasNoPath word = (a : ℤ) → ¬ Scores word a

  -- a word's true score is the highest over its permitted state paths
  pub record IsTrueScore (word : List ℕ) (a : ℤ) : Type 0 where
    pub attained : Scores word a
    pub highest : (b : ℤ) → Scores word b → b ≤ℤ a

  -- each hit has a code below W and names the word of that code
  pub record Names (h : Hit) (word : List ℕ) : Type 0 where
    pub below : h.code < word_count g
    pub is_word : word_of_code v g h.code ≡ word

  -- a word is off the list if no hit names it
  abbrev pub Off : List Hit → List ℕ → Type 0
  Off hs word = (h : Hit) → Memᴰ h hs → ¬ Names h word

  -- a word off the list is outranked by the last hit: it has a true score, and with its code it stands behind that hit
  pub record BehindLast (hs : List Hit) (word : List ℕ) : Type 0 where
    pub score : ℤ
    pub code : ℕ
    pub is_true : IsTrueScore word score
    pub is_code : Names (hit score code) word
    pub listed_some : 0 < length hs
    pub behind : hit_at hs (length hs - 1) ≻ hit score code

  -- demand 3, of the list hs that decoding leaves for n; n is at least 1 there, by 12
  pub record Demand3 (n : ℕ) (hs : List Hit) : Type 0 where
    -- listed words are lexicon words and carry their true scores
    pub listed : (h : Hit) → Memᴰ h hs → (word : List ℕ) × Names h word × LexiconWord v g word × IsTrueScore word h.score
    -- listed words differ
    pub differ : (i j : ℕ) (word : List ℕ) → i < j → j < length hs → Names (hit_at hs i) word → ¬ Names (hit_at hs j) word
    -- they stand by falling score, equal scores by rising code
    pub ordered : (i j : ℕ) → i < j → j < length hs → hit_at hs i ≻ hit_at hs j
    -- at most n are listed
    pub at_most : length hs ≤ n
    -- exactly n are listed if at least n words have a permitted state path
    pub full : (ws : List (List ℕ)) → Different ws → ((w : List ℕ) → Memᴰ w ws → LexiconWord v g w × HasPath w) → n ≤ length ws
        → length hs ≡ n
    -- every lexicon word off the list has no permitted state path, or scores below the last hit, or the same with a greater code
    pub off : (word : List ℕ) → LexiconWord v g word → Off hs word → HasNoPath word ⊎ BehindLast hs word
    -- if fewer than n are listed, no word off the list has a permitted state path: exactly those that have one are listed
    pub short : length hs < n → (word : List ℕ) → LexiconWord v g word → Off hs word → HasNoPath word

  -- the row: each lexicon word that has a true score as a hit of that score and the word's code, by falling score and equal scores by rising
  -- code
  pub record IsRow (r : List Hit) : Type 0 where
    pub each : (h : Hit) → Memᴰ h r → (word : List ℕ) × Names h word × LexiconWord v g word × IsTrueScore word h.score
    pub every : (h : Hit) (word : List ℕ) → Names h word → LexiconWord v g word → IsTrueScore word h.score → Memᴰ h r
    pub ordered : (i j : ℕ) → i < j → j < length r → hit_at r i ≻ hit_at r j

  -- the list equals the first n of that row, or all of it if it is shorter
  pub record FirstOfRow (n : ℕ) (hs : List Hit) : Type 0 where
    pub whole : List Hit
    pub is_row : IsRow whole
    pub is_first : hs ≡ take n whole

-- the list is what decoding leaves: from the output's start, as many hits as it returns
unfoldable pub decoded_list : List ℕ → List ℕ → List ℕ → ℕ → List ℕ → List ℕ → ℕ → List Hit
decoded_list v x frames n work out k = hits_read (decode_out v x frames n work out) k

-- the list of k hits in output bytes: demand 3, and document 01's own sentence, that it equals the first n of the row
abbrev pub ListsHits : List ℕ → List ℕ → List ℕ → ℕ → ℕ → List ℕ → Type 0
ListsHits v x frames n k out = Demand3 v (graph_of x) frames n (hits_read out k) × FirstOfRow v (graph_of x) frames n (hits_read out k)

-- the same wherever an answer is a value: the contract of the call says it so
abbrev pub MeetsDemand3 : List ℕ → List ℕ → List ℕ → ℕ → Answer ℕ → List ℕ → Type 0
MeetsDemand3 v x frames n answer out = (k : ℕ) → answer ≡ value k → ListsHits v x frames n k out

-- What is proved of the call, wherever no number of the table applies to it: demand 3 (proofs/Demanded.antt), and that the list is the first n
-- of the row (proofs/Listed.antt)
abbrev pub DecodingMeetsDemand3 : Type 0
DecodingMeetsDemand3 =
    (v x frames work out : List ℕ) (n k : ℕ) → decode_answer v x frames n work out ≡ value k
    → Demand3 v (graph_of x) frames n (decoded_list v x frames n work out k)

abbrev pub DecodingListsTheRow : Type 0
DecodingListsTheRow =
    (v x frames work out : List ℕ) (n k : ℕ) → decode_answer v x frames n work out ≡ value k
    → FirstOfRow v (graph_of x) frames n (decoded_list v x frames n work out k)

-- two lists that meet demand 3, for the same accepted images, frames and n, are equal
abbrev pub Demand3Determines : Type 0
Demand3Determines =
    (v x frames : List ℕ) (n : ℕ) (hs ks : List Hit) → Accepted v x → Demand3 v (graph_of x) frames n hs → Demand3 v (graph_of x) frames n ks
    → hs ≡ ks
