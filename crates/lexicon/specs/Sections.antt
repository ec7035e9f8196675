-- The vocabulary of the contracts of the private functions that judge a lexicon image, section by section: what a function finds of some
-- fields, and what that says of the verdict, whatever fields come later. No public contract cites it. Assumes nothing.
use Rattle.std.specs.Prelude.{ℕ, suc, ◌+◌, ◌≤◌, ◌≡◌, Result, Ok, Err, cond, ◌&&◌, List, [], ◌∷◌, ◌++◌, length, get_or, eqb, leb}
use Rattle.endian.specs.Lists.{within}
use Rattle.endian.specs.Bytes.{u16}
use Rattle.voice.specs.declared.Fault.{Fault}
use Rattle.voice.specs.declared.Fault.TheVariants.{WrongLength, OutOfRange}
use Rattle.voice.specs.Fields.{Field, field, verdict, fault_verdict}
use Rattle.lexicon.specs.Lexicon.{node_count, sink_of, arcs_at, arc_count, successors, node_fields, successor_fields, arc_fields, reserve_at}

-- what is found of some fields: all are good, and a number that the function names; or the fault of the first bad one
abbrev pub Found : Type 0
Found = Result ℕ Fault

-- ---- one field

-- a u16 that is there and in its range
unfoldable pub number_at : List ℕ → ℕ → ℕ → ℕ → Found
number_at x at low high = cond (leb (at + 2) (length x)) (cond (within low high (u16 x at)) (Ok (u16 x at)) (Err OutOfRange)) (Err WrongLength)

-- the highest successor that u may have among n nodes
unfoldable pub highest_of : ℕ → ℕ → ℕ
highest_of u n = cond (eqb u 0) n (n + 1)

-- a vertex that the table has not marked yet
abbrev pub unmarked : List ℕ → ℕ → Found → Found
unmarked seen mark (Ok s) = cond (eqb (get_or seen s 0) mark) (Err OutOfRange) (Ok s)
unmarked seen mark (Err f) = Err f

-- a successor of u: it rises, has its bound, and is not marked for u
unfoldable pub arc_at : List ℕ → ℕ → ℕ → ℕ → List ℕ → Found
arc_at x at u n seen = unmarked seen (u + 1) (number_at x at (u + 1) (highest_of u n))

-- ---- the fields of a section, before any later ones

-- they are good, and what follows them begins at stop
abbrev pub FieldsGood : List ℕ → ℕ → List Field → ℕ → Type 0
FieldsGood x at fields stop =
    (later : List Field) → verdict (length x) at (fields ++ later) ≡ verdict (length x) stop later

-- one of them is bad and decides
abbrev pub FieldsBad : List ℕ → ℕ → List Field → Fault → Type 0
FieldsBad x at fields f = (later : List Field) → verdict (length x) at (fields ++ later) ≡ fault_verdict f

-- ---- nodes

unfoldable pub nodes_fields : ℕ → List ℕ → List Field
nodes_fields L x = field 0 2 (within 1 400 (node_count x)) ∷ node_fields L x

pub record NodesGood (L : ℕ) (x : List ℕ) (n : ℕ) : Type 0 where
  pub number : n ≡ node_count x
  pub few : n ≤ 400
  pub there : 2 + n ≤ length x
  pub passes : FieldsGood x 0 (nodes_fields L x) (2 + n)

abbrev pub NodesFound : ℕ → List ℕ → Found → Type 0
NodesFound L x (Ok n) = NodesGood L x n
NodesFound L x (Err f) = FieldsBad x 0 (nodes_fields L x) f

-- ---- the list of a vertex

unfoldable pub list_fields : List ℕ → ℕ → ℕ → List Field
list_fields x u total =
    field (arcs_at x u) 2 (within 1 (sink_of x) (arc_count x u) && leb (total + arc_count x u) 4000)
    ∷ successor_fields x u (arcs_at x u + 2) [] (successors x u)

-- the table of marks, of which none is above n
pub record Table (n : ℕ) (seen : List ℕ) : Type 0 where
  pub long : length seen ≡ 402
  pub low : (s : ℕ) → get_or seen s 0 ≤ n

-- what is known before the list is read: no list of u or above has marked the table
pub record Listing (x : List ℕ) (at u n total : ℕ) (seen : List ℕ) : Type 0 where
  pub start : at ≡ arcs_at x u
  pub there : at ≤ length x
  pub number : n ≡ node_count x
  pub few : n ≤ 400
  pub vertex : u ≤ n
  pub room : total ≤ 4000
  pub table : Table u seen

pub record ListGood (x : List ℕ) (u total : ℕ) (seen : List ℕ) (count : ℕ) : Type 0 where
  pub number : count ≡ arc_count x u
  pub room : total + count ≤ 4000
  pub there : arcs_at x (suc u) ≤ length x
  pub table : Table (u + 1) seen
  pub passes : FieldsGood x (arcs_at x u) (list_fields x u total) (arcs_at x (suc u))

abbrev pub ListFound : List ℕ → ℕ → ℕ → List ℕ → Found → Type 0
ListFound x u total seen (Ok count) = ListGood x u total seen count
ListFound x u total seen (Err f) = FieldsBad x (arcs_at x u) (list_fields x u total) f

-- ---- arcs

pub record ArcsGood (x : List ℕ) (at : ℕ) : Type 0 where
  pub place : at ≡ reserve_at x
  pub there : at ≤ length x
  pub passes : FieldsGood x (2 + node_count x) (arc_fields x 0 0 (sink_of x)) at

abbrev pub ArcsFound : List ℕ → Found → Type 0
ArcsFound x (Ok at) = ArcsGood x at
ArcsFound x (Err f) = FieldsBad x (2 + node_count x) (arc_fields x 0 0 (sink_of x)) f

-- ---- reserve

unfoldable pub reserve_fields : List ℕ → ℕ → List Field
reserve_fields x at = field at 2 (eqb (u16 x at) 0) ∷ []
