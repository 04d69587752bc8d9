-- A leaf whose lines all have a begin and an end: its first line and its further lines, joined.
use Rattle.std.proofs.Common.{◌≡◌, ℕ, Bool, true, not, List, ◌++◌, refl, sym, subst}
use Rattle.std.specs.Prelude.{Some}
use Rattle.md_engine.specs.declared.event.Event.{Event}
use Rattle.md_engine.specs.declared.event.Name.{Name}
use Rattle.md_meaning.specs.Leaves.{LeafResult}
use Rattle.md_outline.specs.LinesAllowed.{HasLines, begun_site}
use Rattle.md_events.specs.Events.Spelled.{LeafKind, block_of, fresh}
use Rattle.md_events.proofs.EndingsLemmas.{AreOthers, Leads, in_leaf, leads-append, others-lead}
use Rattle.proof_frame.specs.Row.{Row, last_row, span_by}
use Rattle.proof_frame.proofs.LeafFacts.{LeafFacts}
use Rattle.proof_frame.proofs.LeafLines.Framed.{framed_by, framed_rest, span-framed}
use Rattle.proof_frame.proofs.LeafLines.Leaf.{IsLeafName}
use Rattle.proof_frame.proofs.LeafLines.Lines.{SpanFirst, span-facts}
use Rattle.proof_frame.proofs.LeafLines.Rest.{HasRest, full-last, full_after, row_done, row_unread}

-- All that the frame asks of the lines of such a leaf, on the first of which something is.
pub rest-facts : (bytes : List ℕ) (name : Name) (kind : LeafKind) (row : Row) (rows : List Row) (c : LeafResult) →
    (named : IsLeafName name kind) → HasLines kind →
    (first : SpanFirst bytes row_unread (row_done bytes) name named.begin (fresh kind) (begun_site kind) row) →
    (rest : HasRest bytes name first.left first.leaf first.site row rows c) → AreOthers first.unread_inside →
    AreOthers first.inside → not row.empty ≡ true →
    LeafFacts bytes (Some (block_of rest.to)) (not (last_row row rows).empty) row.first (last_row row rows).end
    (span_by row_unread row rows) (framed_by (row_done bytes) row rows)
rest-facts bytes name kind row rows c named lined first rest unread_others others some =
    subst
    (λ (joined : List Event).
    LeafFacts bytes (Some (block_of rest.to)) full row.first (last_row row rows).end joined
    (framed_by (row_done bytes) row rows)) (sym (span-framed row_unread row rows rest.framed))
    (span-facts bytes row_unread (row_done bytes) name kind rest.to row rows full named lined first rest.further
    (filled us (framed_rest row_unread row rows) unread_others rest.fills)
    (filled es (framed_rest (row_done bytes) row rows) others
    (λ x.
    subst (λ (l : List Event). Leads (in_leaf x) (in_leaf (full_after x rows)) l) (sym rest.same) (rest.fills x))))
  where
    us : List Event
    us = first.unread_inside

    es : List Event
    es = first.inside

    full : Bool
    full = not (last_row row rows).empty

    -- the first line is filled, so the last one is by itself
    filled : (xs ys : List Event) → AreOthers xs →
        ((x : Bool) → Leads (in_leaf x) (in_leaf (full_after x rows)) ys) →
        Leads (in_leaf true) (in_leaf full) (xs ++ ys)
    filled xs ys h k =
        subst (λ (x : Bool). Leads (in_leaf true) (in_leaf x) (xs ++ ys)) (full-last true row rows (sym some))
        (leads-append (in_leaf true) (in_leaf true) (in_leaf (full_after true rows)) xs ys
        (others-lead (in_leaf true) xs refl h) (k true))
