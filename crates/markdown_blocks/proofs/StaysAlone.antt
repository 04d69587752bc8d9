-- Where all events stay as they are by their names, no content is read, and joining lines and running the resolvers
-- changes nothing.
use Rattle.std.proofs.Common.{◌≡◌, ℕ, zero, suc, drop, Bool, true, false, cond, not, ◌+◌, ◌≤◌, List, [], ◌∷◌}
use Rattle.std.proofs.Common.{◌∙◌, ap, arith, length, refl}
use Rattle.std.specs.List.{prefix_len}
use Rattle.std.proofs.lemmas.Bool.{and_parts, and_right, or_from}
use Rattle.md_engine.specs.declared.configuration.ParseOptions.{ParseOptions}
use Rattle.md_engine.specs.declared.event.Event.{Event}
use Rattle.md_engine.specs.declared.event.Name.{Name}
use Rattle.md_engine.specs.declared.event.Name.TheVariants as n
use Rattle.md_containers.specs.Listed.{is_item}
use Rattle.md_leaves.specs.declared.spans.Place.TheVariants.{Outside}
use Rattle.md_leaves.specs.HeadingText.{is_heading}
use Rattle.md_leaves.specs.Spanned.{has_lines, is_code_line, passes, passes_on, spanned}
use Rattle.md_leaves.proofs.SpannedLemmas.{fewer, spanned-none}
use Rattle.md_leaves.specs.Turned.{is_no_underline, is_underline}
use Rattle.md_order.specs.InOrder.{every, in_order}
use Rattle.md_order.specs.Left.{is_same}
use Rattle.md_order.proofs.Names.{tableless}
use Rattle.md_resolve.proofs.Same.{in_order-same, weaker}
use Rattle.md_resolve.proofs.Unset.{same-by}
use Rattle.md_events.specs.Events.Nested.{is_enter}
use Rattle.md_events.specs.Events.Spelled.{role}
use Rattle.md_tables.specs.Heads.{is_table}
use Rattle.md_registry.specs.Resolving.{lines_joined, joins_lines}
use Rattle.md_content.specs.Joined.{is_content}
use Rattle.markdown_blocks.specs.Alone.{may_change, passes_alone, stays_by_name}
use Rattle.markdown_blocks.specs.ContentRead.{holds_content}

-- An event of a name that does not change stays as it is.

off : (x : Bool) → not x ≡ true → x ≡ false
off true h = cc
off false h = refl

no-content : (name : Name) → may_change name ≡ false → is_content name ≡ false
no-content n.Content h = absurd (let no : true ≡ false = h in cc)
no-content _ h = refl

no-lines : (name : Name) → may_change name ≡ false → has_lines (role name) ≡ false
no-lines n.CodeIndented h = absurd (let no : true ≡ false = h in cc)
no-lines n.CodeFenced h = absurd (let no : true ≡ false = h in cc)
no-lines n.MathFlow h = absurd (let no : true ≡ false = h in cc)
no-lines n.HtmlFlow h = absurd (let no : true ≡ false = h in cc)
no-lines n.GfmTable h = absurd (let no : true ≡ false = h in cc)
no-lines _ h = refl

no-code : (name : Name) → may_change name ≡ false → is_code_line name ≡ false
no-code n.CodeFlowChunk h = absurd (let no : true ≡ false = h in cc)
no-code _ h = refl

no-underline : (name : Name) → may_change name ≡ false → is_underline name ≡ false
no-underline n.HeadingSetextUnderline h = absurd (let no : true ≡ false = h in cc)
no-underline _ h = refl

no-item : (name : Name) → may_change name ≡ false → is_item (role name) ≡ false
no-item n.ListItem h = absurd (let no : true ≡ false = h in cc)
no-item _ h = refl

no-heading : (name : Name) → may_change name ≡ false → is_heading name ≡ false
no-heading n.HeadingAtx h = absurd (let no : true ≡ false = h in cc)
no-heading _ h = refl

no-table : (name : Name) → may_change name ≡ false → is_table name ≡ false
no-table n.GfmTable h = absurd (let no : true ≡ false = h in cc)
no-table _ h = refl

alone-by : (e : Event) → is_content e.name ≡ false → has_lines (role e.name) ≡ false → is_code_line e.name ≡ false →
    is_underline e.name ≡ false → passes_alone e ≡ true
alone-by e a b c d = rw (a, b, c, d) refl

-- it passes
named-alone : (e : Event) → stays_by_name e ≡ true → passes_alone e ≡ true
named-alone e h =
    let no = off (may_change e.name) h in
    alone-by e (no-content e.name no) (no-lines e.name no) (no-code e.name no) (no-underline e.name no)

-- and nothing is set there
named-same : (e : Event) → stays_by_name e ≡ true → is_same every e ≡ true
named-same e h =
    let no = off (may_change e.name) h in
    same-by every e (no-item e.name no) (and_right (is_enter e.kind) (is_heading e.name) (no-heading e.name no))
    (no-underline e.name no) (tableless e.kind e.name (no-table e.name no))

passes-on : (e : Event) → passes_alone e ≡ true → passes_on Outside e ≡ true
passes-on e h = (and_parts (not (is_content e.name)) (passes_on Outside e) h).1

-- whether lines are joined or not
pub alone-same : (options : ParseOptions) (bytes : List ℕ) (es : List Event) → prefix_len stays_by_name es ≡ length es →
    in_order every bytes (lines_joined options es) ≡ es
alone-same options bytes es all =
    ap (in_order every bytes) (joined (joins_lines options))
    ∙ in_order-same every bytes es
    (weaker stays_by_name (is_same every)
    named-same es all)
  where
    on : (e : Event) → stays_by_name e ≡ true → passes Outside e ≡ true
    on e h =
        (and_parts (passes Outside e) (is_no_underline e)
        (passes-on e (named-alone e h))).0

    joined : (x : Bool) → cond x (spanned es) es ≡ es
    joined true = spanned-none es (weaker stays_by_name (passes Outside) on es all)
    joined false = refl

-- a look for the first that may not pass continues after those that are known to
pub alone-from : (es : List Event) (n : ℕ) → n ≤ prefix_len passes_alone es →
    n + prefix_len passes_alone (drop n es) ≡ prefix_len passes_alone es
alone-from es zero le = omega arith
alone-from [] (suc n) le = absurd (omega (arith, le))
alone-from (e ∷ es) (suc n) le = by (passes_alone e) (alone-from es n) le
  where
    by : (x : Bool) → (n ≤ prefix_len passes_alone es → n + prefix_len passes_alone (drop n es) ≡
        prefix_len passes_alone es) →
        suc n ≤ cond x (1 + prefix_len passes_alone es) 0 →
        suc n + prefix_len passes_alone (drop n es) ≡ cond x (1 + prefix_len passes_alone es) 0
    by false rest le = absurd (omega (arith, le))
    by true rest le = let is = rest (omega (arith, le)) in omega (arith, is)

pub stay-alone : (es : List Event) → prefix_len stays_by_name es ≤ prefix_len passes_alone es
stay-alone es = fewer stays_by_name passes_alone named-alone es

-- so do they where lines are joined
pub alone-passes : (es : List Event) → prefix_len passes_alone es ≤ prefix_len (passes_on Outside) es
alone-passes es = fewer passes_alone (passes_on Outside) passes-on es

pub stay-pass : (es : List Event) → prefix_len stays_by_name es ≤ prefix_len (passes_on Outside) es
stay-pass es =
    fewer stays_by_name (passes_on Outside)
    (λ e h. passes-on e (named-alone e h)) es

-- none of them is of a line of text
first-other : (e : Event) (es : List Event) → prefix_len passes_alone (e ∷ es) ≡ length (e ∷ es) →
    (is_content e.name ≡ false) × (prefix_len passes_alone es ≡ length es)
first-other e es all = go (passes_alone e) refl all
  where
    go : (x : Bool) → passes_alone e ≡ x → cond x (1 + prefix_len passes_alone es) 0 ≡ length (e ∷ es) →
        (is_content e.name ≡ false) × (prefix_len passes_alone es ≡ length es)
    go true here more = (
      off (is_content e.name) (and_parts (not (is_content e.name)) (passes_on Outside e) here).0,
      omega (arith, more),
    )
    go false here more = cc

pub none-held : (es : List Event) → prefix_len passes_alone es ≡ length es → holds_content es ≡ false
none-held [] all = refl
none-held (e ∷ es) all =
    let one = first-other e es all in or_from (is_content e.name) (holds_content es) one.0 (none-held es one.1)

pub stay-none : (es : List Event) → prefix_len stays_by_name es ≡ length es → holds_content es ≡ false
stay-none es all =
    none-held es
    (weaker stays_by_name passes_alone named-alone es all)
