-- A label takes a text between brackets, or refuses.
use Rattle.std.proofs.Common.{◌≡◌, Bool, true, false, ◌&&◌, cond, nat_eq, List, [], ◌∷◌, ◌++◌, Option, Some, None, refl}
use Rattle.std.proofs.Common.{sym, ◌∙◌, ap, append_assoc, zero-add}
use Rattle.md_engine.specs.declared.tokenizer.Scratch.{Scratch}
use Rattle.md_engine.specs.Meaning.{Accepts, Cell, Here, Outcome, Refuses}
use Rattle.md_link_definitions.specs.Chunks.{before_mark, chunks, from_mark}
use Rattle.md_link_definitions.specs.Label.{is_bracket, unlabelled}
use Rattle.md_link_definitions.specs.LabelRule.{LabelParts, in_label, is_label_text, label_at, label_closed}
use Rattle.md_link_definitions.specs.LabelRule.{label_events, label_from, is_text_of, label_ended, label_opened}
use Rattle.md_link_definitions.specs.LabelRule.{label_parts}
use Rattle.md_events.specs.Ahead.{point_after}
use Rattle.md_events.specs.Spaces.{IsRest}

-- what a label that was found becomes
abbrev pub taken_label : Option LabelParts → Here → Outcome
taken_label None h = Refuses h.scratch h.flags
taken_label (Some t) h =
    Accepts (record h { events = h.events ++ label_events t h.point; point = t.closer.after }) t.rest

-- a label ends at rest
unlabelled-rest : (s : Scratch) → IsRest s → unlabelled s ≡ s
unlabelled-rest s e = ap unlabelled e ∙ sym e

-- and refuses at rest
refused : (h : Here) → IsRest h.scratch → Refuses (unlabelled h.scratch) h.flags ≡ Refuses h.scratch h.flags
refused h is = ap (λ (s : Scratch). Refuses s h.flags) (unlabelled-rest h.scratch is)

-- after `[`, of which nothing was counted yet
abbrev after_opener : Cell → Here → Here
after_opener c h = record h { events = h.events ++ label_opened c h.point; point = c.after }

-- what may be its text
text-of : (text : List Cell) (c : Cell) (h : Here) → IsRest h.scratch →
    is_text_of false text (after_opener c h) ≡ is_label_text text c.after
text-of text c h is =
    ap (λ (s : Scratch). is_text_of false text (after_opener c (record h { scratch = s }))) is
    ∙ rw zero-add refl

-- by the text, and what follows it
whole-by : (c : Cell) (text rest : List Cell) (h : Here) → IsRest h.scratch →
    (let now = after_opener c h in
    cond (is_label_text text c.after)
    (label_closed rest
    (record now {
      events = now.events ++ chunks false text c.after;
      point = point_after text c.after;
      scratch = unlabelled h.scratch;
    }))
    (Refuses (unlabelled h.scratch) h.flags)) ≡
    taken_label (label_from c text rest) h
whole-by c text [] h is = go (is_label_text text c.after)
  where
    go : (x : Bool) →
        cond x (Refuses (unlabelled h.scratch) h.flags) (Refuses (unlabelled h.scratch) h.flags) ≡
        Refuses h.scratch h.flags
    go true = refused h is
    go false = refused h is
whole-by c text (d ∷ ds) h is = rw (unlabelled-rest h.scratch is) (go (is_label_text text c.after) (nat_eq d.byte 93))
  where
    left : Here
    left = let now = after_opener c h in
        record now { events = now.events ++ chunks false text c.after; point = point_after text c.after }

    go : (x y : Bool) →
        cond x
        (cond y
        (Accepts (record left { events = left.events ++ label_ended d left.point; point = d.after }) ds)
        (Refuses h.scratch h.flags))
        (Refuses h.scratch h.flags) ≡
        taken_label (cond (x && y) (Some (record { opener = c; text = text; closer = d; rest = ds })) None) h
    go true true = simp append_assoc
    go true false = refl
    go false y = refl

-- The rule as a whole: a label is taken where one is, and else nothing.
pub label-whole : (cells : List Cell) (h : Here) → IsRest h.scratch →
    label_at cells h ≡ taken_label (label_parts cells) h
unfolding label_at label_parts in_label
label-whole [] h is = refl
label-whole (c ∷ cs) h is = go (nat_eq c.byte 91) refl
  where
    go : (x : Bool) → nat_eq c.byte 91 ≡ x → label_at (c ∷ cs) h ≡ taken_label (label_parts (c ∷ cs)) h
    go true e =
        let text = before_mark is_bracket false cs in
        rw (e, text-of text c h is) (whole-by c text (from_mark is_bracket false cs) h is)
    go false e = rw e refl
