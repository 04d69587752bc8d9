use Rattle.std.proofs.Common.{◌-◌, ◌<◌, ◌≤◌, cond, length, map, drop, sym, ap, ◌∙◌, arith, bytes_eq, string_bytes, nat_cmp}
use Rattle.std.specs.Prelude.{Some}
use Rattle.std.specs.BTreeMap.{get_by}
use Rattle.std.specs.Cmp.Lexicographic.{slice_cmp}
use Rattle.std.specs.List.{position_from}
use Rattle.std.proofs.lemmas.Map.Text.{btree_map_updates_str}
use Rattle.md_events.proofs.FirstPlaceLemmas.{form-before, from-first, on-ok}
use Rattle.md_events.proofs.labels.places_of.Goals as goal

pub loop-at-preserved : goal.loop-at-preserved
loop-at-preserved c = record {
  within = let within : c.loop-at.at ≤ length c.args.forms.now = c.loop-at.invariant.within in omega arith;
  first = λ form. btree_map_updates_str c.as_str.result.now c.loop-at.places c.insert.new.self (Some (c.loop-at.at - 1))
      (on-ok c.insert.result c.if-is_err.ensures.negation c.insert.ensures.updates) form
      ∙ ap (λ text. cond (bytes_eq text form) (Some (c.loop-at.at - 1))
      (get_by (λ k. slice_cmp nat_cmp form k.now) c.loop-at.places)) c.as_str.ensures.value
      ∙ ap (λ later. cond (bytes_eq (string_bytes c.index-forms-at.result) form) (Some (c.loop-at.at - 1)) later)
      (c.loop-at.invariant.first form)
      ∙ sym (form-before string_bytes c.args.forms.now (c.loop-at.at - 1) c.loop-at.at c.index-forms-at.result form
      (let some : 0 < c.loop-at.at = c.loop-at-test.true in omega arith)
      (let some : 0 < c.loop-at.at = c.loop-at-test.true in
      let within : c.loop-at.at ≤ length c.args.forms.now = c.loop-at.invariant.within in omega arith)
      c.index-forms-at.is);
}

pub returns : goal.returns
returns c = λ form. c.loop-at.invariant.first form
    ∙ ap (λ n. position_from (λ other. bytes_eq other form) n (map string_bytes (drop n c.args.forms.now))) {y = 0}
    (let none : c.loop-at.at ≤ 0 = c.loop-at-test.false in omega arith)
    ∙ from-first (map string_bytes c.args.forms.now) form
