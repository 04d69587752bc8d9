-- The heads of tables, over events one after the other.
use Rattle.std.proofs.Common.{◌≡◌, ℕ, Bool, true, false, ◌||◌, List, [], ◌∷◌, ◌++◌, refl, ◌∙◌, ap}
use Rattle.std.specs.List.{list_any}
use Rattle.std.proofs.lemmas.Bool.{and_from, and_right, or_parts}
use Rattle.md_engine.specs.declared.configuration.ParseOptions.{ParseOptions}
use Rattle.md_engine.specs.declared.event.Event.{Event}
use Rattle.md_engine.specs.declared.event.Name.{Name}
use Rattle.md_engine.specs.declared.event.Name.TheVariants as n
use Rattle.md_leaves.specs.Spanned.{is_blank_ending}
use Rattle.md_events.specs.Events.Blocks.{is_block}
use Rattle.md_events.specs.Events.Prefix.{is_prefix}
use Rattle.md_events.specs.Events.Spelled.{role}
use Rattle.md_tables.specs.Heads.{begins_chunk, begins_further_row, head_line, headed}
use Rattle.md_tables.specs.Heads.{is_chunk, meets_table, stops_look}
use Rattle.md_tables.proofs.HeadsWalk.{headed-begins, headed-passes, not-head}

-- Where a look after the ending of a line stops.

abbrev stops_as : Name → Bool
stops_as name = is_chunk name || is_blank_ending name || is_block (role name)

-- the ending of a line is passed, and the prefixes of containers
prefix-named : (name : Name) → is_prefix name ≡ true → stops_as name ≡ false
prefix-named n.SpaceOrTab is = refl
prefix-named n.BlockQuotePrefix is = refl
prefix-named n.BlockQuoteMarker is = refl
prefix-named _ is = cc

pub prefix-passed : (e : Event) → is_prefix e.name ≡ true → stops_look e ≡ false
prefix-passed e is = prefix-named e.name is

-- What a line meets.

-- what else stops the look
pub meets-other : (e : Event) (es : List Event) → stops_look e ≡ true → begins_further_row e ≡ false →
    meets_table (e ∷ es) ≡ false
meets-other e es apart none = rw apart none

-- All events.

-- events of which none begins a line of text pass
pub headed-following : (bytes : List ℕ) (options : ParseOptions) (front rest : List Event) →
    list_any begins_chunk front ≡ false →
    headed bytes options (front ++ rest) ≡ front ++ headed bytes options rest
headed-following bytes options [] rest none = refl
headed-following bytes options (e ∷ front) rest none =
    let each = or_parts (begins_chunk e) (list_any begins_chunk front) none in
    headed-passes bytes options e (front ++ rest) (not-head e (front ++ rest) each.0)
    ∙ ap (λ (l : List Event). e ∷ l) (headed-following bytes options front rest each.1)

-- a line of text that meets no table passes
pub headed-text : (bytes : List ℕ) (options : ParseOptions) (e x : Event) (rest : List Event) →
    meets_table rest ≡ false → begins_chunk x ≡ false →
    headed bytes options (e ∷ x ∷ rest) ≡ e ∷ x ∷ headed bytes options rest
headed-text bytes options e x rest none ends =
    headed-passes bytes options e (x ∷ rest) (and_right (begins_chunk e) (meets_table rest) none)
    ∙ ap (λ (l : List Event). e ∷ l) (headed-passes bytes options x rest (not-head x rest ends))

-- one that meets a table is its head
pub headed-head : (bytes : List ℕ) (options : ParseOptions) (e x : Event) (rest : List Event) →
    begins_chunk e ≡ true → meets_table rest ≡ true →
    headed bytes options (e ∷ x ∷ rest) ≡ head_line bytes options e.point x.point ++ headed bytes options rest
headed-head bytes options e x rest is meets =
    headed-begins bytes options e x rest (and_from (begins_chunk e) (meets_table rest) is meets)
