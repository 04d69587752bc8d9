-- A line is blank where it ends, and it is not where another byte than its ending is first after whitespace.
use Rattle.std.proofs.Common.{◌≡◌, ℕ, nat_eq, Some, Bool, true, false, cond, List, [], ◌∷◌, refl, ap, append-nil, arith}
use Rattle.std.proofs.lemmas.Bool.Decides.{nat_tests}
use Rattle.md_engine.specs.declared.event.Event.{Event}
use Rattle.md_engine.specs.Meaning.{Accepts, Cell, Here, Refuses}
use Rattle.md_leaves.specs.Blank.{may_begin}
use Rattle.md_leaves.specs.BlankRule.{blank_at}
use Rattle.md_events.specs.Ahead.{line_bytes}
use Rattle.md_events.specs.Look.{first_seen, seen_after}
use Rattle.md_events.specs.Spaces.{ends_line}
use Rattle.md_meaning.specs.Rest.{is_blank, is_white}
use Rattle.md_events.proofs.AheadLemmas.{white-no_ending}

-- that byte is one of its line, and not white
not-blank : (cells : List Cell) (b : ℕ) → seen_after cells ≡ Some b → may_begin b ≡ false →
    is_blank (line_bytes cells) ≡ false
not-blank [] b seen e = cc
not-blank (c ∷ cs) b seen e = go (is_white c.byte) refl seen (λ k. not-blank cs b k e)
  where
    go : (x : Bool) → is_white c.byte ≡ x → cond x (seen_after cs) (Some c.byte) ≡ Some b →
        (seen_after cs ≡ Some b → is_blank (line_bytes cs) ≡ false) → is_blank (line_bytes (c ∷ cs)) ≡ false
    go true k is next = rw (white-no_ending c.byte k, k) (next is)
    go false k is next =
        let same : c.byte ≡ b = cc in
        let on : nat_eq c.byte 10 ≡ false = rw same e in
        rw (on, k) refl

pub blank-refused : (cells : List Cell) (h : Here) (b : ℕ) → seen_after cells ≡ Some b → may_begin b ≡ false →
    blank_at cells h ≡ Refuses h.scratch h.flags
unfolding blank_at
blank-refused cells h b seen e = rw (not-blank cells b seen e) refl

-- where the line ends here, nothing of it is left to take
pub blank-ended : (cells : List Cell) (h : Here) → ends_line (first_seen cells) ≡ true →
    blank_at cells h ≡ Accepts h cells
unfolding blank_at
blank-ended [] h e = ap (λ (es : List Event). Accepts (record h { events = es }) []) (append-nil h.events)
blank-ended (c ∷ cs) h e =
    let dark : is_white c.byte ≡ false = grind (arith, nat_tests) in
    rw (e, dark) (ap (λ (es : List Event). Accepts (record h { events = es }) (c ∷ cs)) (append-nil h.events))
