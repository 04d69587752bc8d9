-- A table is set as it is, whatever is after it.
use Rattle.std.proofs.Common.{◌≡◌, ℕ, suc, ◌+◌, Bool, true, false, cond, not, ◌&&◌, List, [], ◌∷◌, ◌++◌, take, drop}
use Rattle.std.proofs.Common.{refl, ap, sym, ◌∙◌, append_assoc, append-nil, arith}
use Rattle.std.specs.List.{prefix_len}
use Rattle.std.proofs.lemmas.Bool.{and_parts, and_right}
use Rattle.md_engine.specs.declared.event.Event.{Event}
use Rattle.md_engine.specs.declared.event.Kind.{Kind}
use Rattle.md_engine.specs.declared.event.Kind.TheVariants.{Enter, Exit}
use Rattle.md_engine.specs.declared.event.Name.{Name}
use Rattle.md_engine.specs.declared.event.Name.TheVariants as n
use Rattle.md_events.specs.Events.Nested.{is_enter, is_exit}
use Rattle.md_tables.specs.Cells.{Step, begins_divider, ends_inner, ends_row, ends_with}
use Rattle.md_tables.specs.Cells.{inside_step, is_divider, is_inner, step}
use Rattle.md_tables.specs.Heads.{is_table}
use Rattle.md_tables.specs.Tabled.{following, bound_by, bound_of, in_front, next, tabled, tabled_from, with_cells}
use Rattle.md_tables.specs.declared.cells.RowKind.{RowKind}
use Rattle.md_tables.specs.declared.cells.Stage.{Stage}
use Rattle.md_tables.specs.declared.cells.Stage.TheVariants as row
use Rattle.md_tables.specs.declared.tables.Bound.{Bound}
use Rattle.md_tables.specs.declared.tables.Bound.TheVariants.{EndsTable}
use Rattle.md_tables.specs.declared.tables.Section.{Section}
use Rattle.md_tables.specs.declared.tables.Section.TheVariants.{Between, Body, Head, Outside}
use Rattle.md_tables.proofs.CellsLemmas.{Looks, step-looks}
use Rattle.md_tables.proofs.TabledWalk.{outside-stage}
use Rattle.md_order.specs.Left.{ends_table, table_len}
use Rattle.md_order.proofs.TableLooks.{AtEnd, Dark, IsDark, Like, Same, looks-like, table-dark}

-- The events up to and with the first end of a table, and those after it.

abbrev pub slice : List Event → List Event
slice [] = []
slice (e ∷ es) = e ∷ cond (ends_table e) [] (slice es)

abbrev pub rest : List Event → List Event
rest [] = []
rest (e ∷ es) = cond (ends_table e) es (rest es)

abbrev pub is_continued : Event → Bool
is_continued e = not (ends_table e)

-- they are so many
pub slice-is : (es : List Event) → take (table_len es) es ≡ slice es
slice-is [] = refl
slice-is (e ∷ es) = go (ends_table e) (slice-is es)
  where
    go : (x : Bool) → take (table_len es) es ≡ slice es →
        take (suc (cond (not x) (1 + prefix_len is_continued es) 0)) (e ∷ es) ≡ e ∷ cond x [] (slice es)
    go true h = refl
    go false h =
        let one : 1 + prefix_len is_continued es ≡ suc (prefix_len is_continued es) = omega arith in
        ap (λ (m : ℕ). e ∷ take m es) one ∙ ap (λ (l : List Event). e ∷ l) h

pub rest-is : (es : List Event) → drop (table_len es) es ≡ rest es
rest-is [] = refl
rest-is (e ∷ es) = go (ends_table e) (rest-is es)
  where
    go : (x : Bool) → drop (table_len es) es ≡ rest es →
        drop (suc (cond (not x) (1 + prefix_len is_continued es) 0)) (e ∷ es) ≡ cond x es (rest es)
    go true h = refl
    go false h =
        let one : 1 + prefix_len is_continued es ≡ suc (prefix_len is_continued es) = omega arith in
        ap (λ (m : ℕ). drop m es) one ∙ h

-- What follows them: nothing if no table ends.
abbrev pub MayFollow : List Event → List Event → Type 0
MayFollow [] ys = ys ≡ []
MayFollow (e ∷ es) ys = ends_table e ≡ false → MayFollow es ys

-- a function of the rest may, if it makes nothing of nothing
pub rest-follows : (f : List Event → List Event) → f [] ≡ [] → (es : List Event) → MayFollow es (f (rest es))
rest-follows f none [] = none
rest-follows f none (e ∷ es) = λ h.
    rw (ap (λ (x : Bool). cond x es (rest es)) h) (rest-follows f none es)

-- So a look ahead sees the same.
slice-like : (es ys : List Event) → MayFollow es ys → Like (slice es ++ ys) (slice es)
slice-like [] ys h = rw h AtEnd
slice-like (e ∷ es) ys h = go (ends_table e) refl (λ k. slice-like es ys (h k))
  where
    named : ends_table e ≡ true → is_table e.name ≡ true
    named k = (and_parts (is_exit e.kind) (is_table e.name) k).1

    go : (x : Bool) → ends_table e ≡ x → (ends_table e ≡ false → Like (slice es ++ ys) (slice es)) →
        Like ((e ∷ cond x [] (slice es)) ++ ys) (e ∷ cond x [] (slice es))
    go true is more = Dark e ys [] (table-dark e.name (named is))
    go false is more = Same e (slice es ++ ys) (slice es) (more is)

cells-same : (section : Section) (stage : Stage) (e : Event) (xs ys : List Event) → Looks xs ys →
    with_cells section stage e xs ≡ with_cells section stage e ys
cells-same Outside stage e xs ys h = refl
cells-same Head stage e xs ys h = step-looks stage e xs ys h
cells-same Between stage e xs ys h = step-looks stage e xs ys h
cells-same Body stage e xs ys h = step-looks stage e xs ys h

-- The end of a table looks at nothing,
end-step : (stage : Stage) (e : Event) (xs ys : List Event) → ends_table e ≡ true → step stage e xs ≡ step stage e ys
end-step stage e xs ys h =
    ap (λ (s : Step). cond (ends_row e) (record { given = ends_with stage e; stage = row.Outside }) s) (go stage)
  where
    dark : IsDark e.name
    dark = table-dark e.name (and_parts (is_exit e.kind) (is_table e.name) h).1

    no_pipe : begins_divider e ≡ false
    no_pipe = and_right (is_enter e.kind) (is_divider e.name) dark.divider

    no_inner : (k : RowKind) → ends_inner k e ≡ false
    no_inner k = and_right (is_exit e.kind) (is_inner k e.name) (dark.inner k)

    go : (t : Stage) → inside_step t e xs ≡ inside_step t e ys
    go row.Outside = refl
    go (row.Front k) = refl
    go (row.Within k) = rw no_pipe refl
    go (row.Inner k) = rw (no_inner k) refl
    go row.Gap = refl
    go (row.Last k) = refl
    go row.Following = refl

end-cells : (section : Section) (stage : Stage) (e : Event) (xs ys : List Event) → ends_table e ≡ true →
    with_cells section stage e xs ≡ with_cells section stage e ys
end-cells Outside stage e xs ys h = refl
end-cells Head stage e xs ys h = end-step stage e xs ys h
end-cells Between stage e xs ys h = end-step stage e xs ys h
end-cells Body stage e xs ys h = end-step stage e xs ys h

-- and after it one is outside of tables
end-bound : (kind : Kind) (name : Name) → (is_exit kind && is_table name) ≡ true → bound_by kind name ≡ EndsTable
end-bound Exit n.GfmTable h = refl
end-bound Exit _ h = absurd (let no : false ≡ true = h in cc)
end-bound Enter name h = absurd (let no : false ≡ true = h in cc)

end-next : (section : Section) → next section EndsTable ≡ Outside
end-next Outside = refl
end-next Head = refl
end-next Between = refl
end-next Body = refl

-- so what is there is set on its own
pub tabled-slice : (es ys : List Event) (section : Section) (stage : Stage) → MayFollow es ys →
    tabled_from section stage (slice es ++ ys) ≡ tabled_from section stage (slice es) ++ tabled ys
tabled-slice [] ys section stage h = ap (tabled_from section stage) h ∙ sym (ap tabled h)
tabled-slice (e ∷ es) ys section stage h = go (ends_table e) refl (λ s t k. tabled-slice es ys s t (h k))
  where
    after_it : Section
    after_it = next section (bound_of e)

    itself : Step → List Event
    itself c = in_front section (bound_of e) e.point ++ c.given ++ following section (bound_of e) e.point

    cells : List Event → Step
    cells zs = with_cells section stage e zs

    ended : ends_table e ≡ true →
        itself (cells ys) ++ tabled_from after_it (cells ys).stage ys
        ≡ (itself (cells []) ++ tabled_from after_it (cells []).stage []) ++ tabled ys
    ended is =
        ap (λ (c : Step). itself c ++ tabled_from after_it c.stage ys) (end-cells section stage e ys [] is)
        ∙ ap (λ (b : Bound). itself (cells []) ++ tabled_from (next section b) (cells []).stage ys)
        (end-bound e.kind e.name is)
        ∙ ap (λ (s : Section). itself (cells []) ++ tabled_from s (cells []).stage ys) (end-next section)
        ∙ ap (λ (l : List Event). itself (cells []) ++ l) (outside-stage (cells []).stage ys)
        ∙ ap (λ (l : List Event). l ++ tabled ys) (sym (append-nil (itself (cells []))))

    go : (x : Bool) → ends_table e ≡ x →
        ((s : Section) (t : Stage) → ends_table e ≡ false →
        tabled_from s t (slice es ++ ys) ≡ tabled_from s t (slice es) ++ tabled ys) →
        tabled_from section stage ((e ∷ cond x [] (slice es)) ++ ys)
        ≡ tabled_from section stage (e ∷ cond x [] (slice es)) ++ tabled ys
    go true is more = ended is
    go false is more =
        ap (λ (c : Step). itself c ++ tabled_from after_it c.stage (slice es ++ ys))
        (cells-same section stage e (slice es ++ ys) (slice es)
        (looks-like (slice es ++ ys) (slice es) (slice-like es ys (h is))))
        ∙ ap (λ (l : List Event). itself (cells (slice es)) ++ l) (more after_it (cells (slice es)).stage is)
        ∙ sym
        (append_assoc (itself (cells (slice es))) (tabled_from after_it (cells (slice es)).stage (slice es))
        (tabled ys))
