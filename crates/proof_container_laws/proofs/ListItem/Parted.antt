-- Whitespace of a list item in a text that continues after it.
use Rattle.std.proofs.Common.{◌≡◌, ℕ, ◌+◌, ◌<◌, ◌≤◌, Bool, true, false, cond, ◌||◌, List, ◌++◌, slice_range}
use Rattle.std.proofs.Common.{refl, ap, sym, ◌∙◌, subst, arith}
use Rattle.std.specs.Prelude.{◌==◌, IsTrue, Some, nat_lt}
use Rattle.std.proofs.lemmas.Bool.Decides.{nat_tests}
use Rattle.md_engine.specs.declared.event.Event.{Event}
use Rattle.md_engine.specs.declared.event.Name.TheVariants as n
use Rattle.md_engine.specs.declared.event.Point.{Point}
use Rattle.md_events.proofs.LostColumns.{White}
use Rattle.md_meaning.specs.Rest.{is_blank}
use Rattle.md_events.specs.Events.Inline.{pair_unless_empty}
use Rattle.md_events.specs.Events.Places.{at_or_before}
use Rattle.md_events.specs.Events.Spelled.{byte_at}
use Rattle.md_events.proofs.FeedLines.{slice-split}
use Rattle.md_events.proofs.SpelledLemmas.{QuietOrEnding}
use Rattle.md_outline.specs.Between.{is_between}
use Rattle.md_outline.specs.Outlined.{OpenTextSpan, are_parted}
use Rattle.proof_frame.proofs.BetweenFacts.{white-at}
use Rattle.proof_frame.proofs.CollectFacts.{blank-append}
use Rattle.proof_frame.proofs.PartedFacts.{byte-from, clear, low-clear, passes}
use Rattle.proof_frame.proofs.PlainRoles.{pair-roles}
use Rattle.proof_frame.proofs.Reached.{PartsText, Reaches}

-- a byte of an earlier point is no later
pub byte-grows : (p q : Point) → IsTrue (at_or_before p q) → byte_at p ≤ byte_at q
byte-grows p q h = grind (arith, nat_tests)

-- after whitespace a text reaches as far as before it
reaches-white : (bytes : List ℕ) (p q : Point) (span : OpenTextSpan) → White bytes p q → Reaches bytes p span →
    Reaches bytes q span
reaches-white bytes p q span white reaches = record {
  marks = λ j h blank.
      let here : q.index ≤ byte_at q = byte-from q in
      let following : q.index ≤ j = omega (arith, here, h) in
      let before : byte_at p ≤ j = omega (arith, grows, h) in
      reaches.marks j before
      (ap is_blank (slice-split bytes p.index q.index j white.index following)
      ∙ blank-append (slice_range bytes p.index q.index) (slice_range bytes q.index j) white.blank blank);
  from = let from = reaches.from in omega (arith, from, grows);
}
  where
    grows : byte_at p ≤ byte_at q
    grows = byte-grows p q white.onward

-- a text continues after it
pub white-parted : (bytes : List ℕ) (p q : Point) (es : List Event) → es ≡ pair_unless_empty n.SpaceOrTab p q →
    White bytes p q → PartsText bytes p q es
white-parted bytes p q es are white span rest reaches between more =
    ap (λ (l : List Event). are_parted bytes (Some span) (l ++ rest)) are
    ∙ passes bytes (Some span) (pair_unless_empty n.SpaceOrTab p q) rest
    (pair-roles QuietOrEnding n.SpaceOrTab p q tt)
    ∙ more span (reaches-white bytes p q span white reaches)

-- it begins where no tab of a character is cut, if it ends so
pub white-clear : (bytes : List ℕ) (p q : Point) → White bytes p q → clear bytes q ≡ true → clear bytes p ≡ true
white-clear bytes p q white h = go (nat_lt p.index q.index) refl
  where
    later : (p q : Point) → IsTrue (at_or_before p q) → p.index ≡ q.index → (p.vs == 0) ≡ false →
        (q.vs == 0) ≡ false
    later p q h e cut = grind (arith, nat_tests)

    within : (x y : Bool) → (x ≡ false → y ≡ false) → p.index ≡ q.index →
        (y || is_between bytes (cond y q.index (q.index + 1))) ≡ true →
        (x || is_between bytes (cond x p.index (p.index + 1))) ≡ true
    within true y cut same h = refl
    within false y cut same h =
        subst (λ (i : ℕ). is_between bytes (i + 1) ≡ true) (sym same)
        (subst (λ (z : Bool). (z || is_between bytes (cond z q.index (q.index + 1))) ≡ true) (cut refl) h)

    go : (x : Bool) → nat_lt p.index q.index ≡ x → clear bytes p ≡ true
    go true e =
        let less : p.index < q.index = grind (arith, nat_tests) in
        low-clear bytes p (λ cut. white-at bytes p.index q.index p.index white.blank (omega arith) less)
    go false e =
        let least : q.index ≤ p.index = grind (arith, nat_tests) in
        let most : p.index ≤ q.index = white.index in
        let same : p.index ≡ q.index = omega (arith, least, most) in
        within (p.vs == 0) (q.vs == 0) (λ cut. later p q white.onward same cut) same h
