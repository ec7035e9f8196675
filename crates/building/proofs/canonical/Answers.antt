-- `canonical` meets its contract: the word table decides up to 17, its words decide 18, 16 and the image, and what was
-- written since is made zero again. Assumes nothing.
-- the parts lent for building are long enough, and no longer than the spaces
use Prim.Native.Nat.{ℕ, ◌≤◌}
use mathlib.Core.Path.{◌≡◌, sym, ap, subst, ◌∙◌}
use mathlib.Core.List.{List}
use native.Mathlib.Omega.{arith}
use lib.ListN.{length}
use Rattle.std.proofs.lemmas.Result.{err_from_is_err_and}
use Rattle.call.specs.Table.{value}
use Rattle.call.specs.Buffers.{zeroed}
use Rattle.sorting.specs.Listing.{word_table_answer}
use Rattle.registering.proofs.Calls.{table-refused, table-refused-out, table-refused-further}
use Rattle.registering.proofs.Calls.{work-room, further-room, part_given, further_again, work_again, out_past}
use Rattle.building.proofs.canonical.Goals as goal

parts-fit : {f w : ℕ} → 262144 ≤ f → 64000 ≤ w → (132033 ≤ 132033) × (132033 ≤ f) × (2000 ≤ 2000) × (2000 ≤ w)
parts-fit h k = (omega arith, omega arith, omega arith, omega arith)

pub returns-in_err-n : goal.returns-in_err-n
returns-in_err-n c =
    let a = c.args in
    let t = c.in_err-n.ensures in
    let r = sym t.result_value in
    let v = a.voice.now in
    let x = a.lexicon.now in
    let w = a.work.now in
    let f = a.further.now in
    let o = a.out.now in
    let p = err_from_is_err_and c.from_residual.result c.from_residual.ensures.1 in
    rw (p.1, p.2) (record {
      result_value = sym (table-refused v x w f o r);
      work_after = t.work_after;
      further_after = t.further_after ∙ table-refused-further v x w f o r;
      out_after = sym (table-refused-out v x w f o r);
    })

module _ (v x w f o : List ℕ) {n : ℕ} (e : word_table_answer v x w f ≡ value n) where
  work_long : (work : List ℕ) → length work ≡ length w → 64000 ≤ length work
  work_long work h = subst (λ k. 64000 ≤ k) (sym h) (work-room v x w f o e)

  further-long : (further : List ℕ) → length further ≡ length f → 262144 ≤ length further
  further-long further h = subst (λ k. 262144 ≤ k) (sym h) (further-room v x w f o e)

pub build_in-requires : goal.build_in-requires
build_in-requires c =
    let a = c.args in
    let t = c.word_table in
    let v = a.voice.now in
    let x = a.lexicon.now in
    let w = a.work.now in
    let f = a.further.now in
    let o = a.out.now in
    let e = sym c.in_ok-n.ensures.result_value in
    record {
      given = (part_given v x w f o e t.new.further t.ensures.further_after).0;
      le_table = parts-fit (further-long v x w f o e t.new.further t.auto.further)
          (work_long v x w f o e t.new.work t.auto.work);
    }

pub returns : goal.returns
returns c =
    let a = c.args in
    let t = c.word_table in
    let v = a.voice.now in
    let x = a.lexicon.now in
    let w = a.work.now in
    let f = a.further.now in
    let o = a.out.now in
    let e = sym c.in_ok-n.ensures.result_value in
    let b = c.build_in.ensures in
    let l = out_past v x w f o e (part_given v x w f o e t.new.further t.ensures.further_after).1 b.image_answered in
    record {
      result_value = l.0;
      work_after = b.work_after ∙ ap (zeroed 2000) t.ensures.work_after ∙ work_again v x w f o e;
      further_after = b.further_after ∙ ap (zeroed 132033) t.ensures.further_after ∙ further_again v x w f o e;
      out_after = l.1;
    }
