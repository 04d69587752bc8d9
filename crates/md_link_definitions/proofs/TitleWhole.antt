-- The title of a definition takes a text between two marks, or refuses.
use Rattle.std.proofs.Common.{◌≡◌, ℕ, Bool, true, false, nat_eq, List, [], ◌∷◌, ◌++◌, Option, Some, None, refl, sym}
use Rattle.std.proofs.Common.{◌∙◌, ap, append_assoc}
use Rattle.md_meaning.specs.Definition.{title_closer}
use Rattle.md_engine.specs.declared.tokenizer.Scratch.{Scratch}
use Rattle.md_engine.specs.Meaning.{Accepts, Cell, Here, Outcome, Refuses}
use Rattle.md_link_definitions.specs.Chunks.{before_mark, from_mark}
use Rattle.md_link_definitions.specs.Title.{is_mark, marked, unmarked}
use Rattle.md_link_definitions.specs.TitleRule.{TitleParts, after_cell, after_opener, parts_closed, parts_from}
use Rattle.md_link_definitions.specs.TitleRule.{title_at, title_by, title_events, title_from, title_parts, title_text}
use Rattle.md_events.specs.Spaces.{IsRest}

-- what a title that was found becomes
abbrev pub taken_title : Option TitleParts → Here → Outcome
taken_title None h = Refuses h.scratch h.flags
taken_title (Some t) h =
    Accepts (record h { events = h.events ++ title_events t h.point; point = t.closer.after }) t.rest

-- a title ends at rest
unmarked-rest : (s : Scratch) (opener closer : ℕ) → IsRest s → unmarked (marked opener closer s) ≡ s
unmarked-rest s opener closer e = ap (λ (t : Scratch). unmarked (marked opener closer t)) e ∙ sym e

-- by the text, and what follows it
whole-by : (closer : ℕ) (c : Cell) (text rest : List Cell) (h : Here) → IsRest h.scratch →
    title_by title_text text rest (after_cell c closer h) ≡ taken_title (parts_closed closer c text rest) h
whole-by closer c text [] h is = ap (λ (s : Scratch). Refuses s h.flags) (unmarked-rest h.scratch c.byte closer is)
whole-by closer c text (d ∷ ds) h is = go (nat_eq d.byte closer) refl
  where
    go : (x : Bool) → nat_eq d.byte closer ≡ x →
        title_by title_text text (d ∷ ds) (after_cell c closer h) ≡ taken_title (parts_closed closer c text (d ∷ ds)) h
    go true e = rw (e, unmarked-rest h.scratch c.byte closer is) (simp append_assoc)
    go false e = rw e (ap (λ (s : Scratch). Refuses s h.flags) (unmarked-rest h.scratch c.byte closer is))

-- after the opening mark
whole-opened : (closer : ℕ) (c : Cell) (cs : List Cell) (h : Here) → IsRest h.scratch →
    after_opener cs (after_cell c closer h) ≡ taken_title (parts_from (Some closer) c cs) h
unfolding after_opener
whole-opened closer c cs h is =
    let mark = is_mark c.byte closer in whole-by closer c (before_mark mark false cs) (from_mark mark false cs) h is

-- by what closes it
whole-from : (o : Option ℕ) (c : Cell) (cs : List Cell) (h : Here) → IsRest h.scratch →
    title_from o c cs h ≡ taken_title (parts_from o c cs) h
whole-from None c cs h is = refl
whole-from (Some closer) c cs h is = whole-opened closer c cs h is

-- The rule as a whole: a title is taken where one is, and else nothing.
pub title-whole : (cells : List Cell) (h : Here) → IsRest h.scratch →
    title_at cells h ≡ taken_title (title_parts cells) h
unfolding title_at title_parts
title-whole [] h is = refl
title-whole (c ∷ cs) h is = whole-from (title_closer c.byte) c cs h is
