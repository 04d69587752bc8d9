-- Rows of lines where other blocks are before what is open: they are the same, unless the last of these blocks is an
-- item, which the next could join.
use Rattle.std.proofs.Common.{◌≡◌, ℕ, zero, suc, Bool, false, cond, List, [], ◌∷◌, ◌++◌, length, drop}
use Rattle.std.proofs.Common.{refl, ap, ap₂, ◌∙◌}
use Rattle.std.specs.Prelude.{◌==◌, ◌&&◌, not}
use Rattle.std.specs.Option.{is_some}
use Rattle.md_engine.specs.declared.configuration.ParseOptions.{ParseOptions}
use Rattle.md_engine.specs.declared.event.Event.{Event}
use Rattle.md_meaning.specs.Containers.{Taken}
use Rattle.md_meaning.specs.Rest.{Rest}
use Rattle.md_meaning.specs.State.{At, Container, InFootnote, InItem, InQuote, NoLeaf, Path, Within, spot}
use Rattle.md_meaning.specs.Step.{step, with_lazy}
use Rattle.md_meaning.specs.Tree.{Blocks, End, More}
use Rattle.md_events.specs.Events.Nested.{enter}
use Rattle.md_engine.specs.declared.event.Name.TheVariants as n
use Rattle.md_events.specs.Exact.Prefixes.{item_prefix, list_name}
use Rattle.md_events.specs.Exact.Places.{TextLine, line_end, place, whole}
use Rattle.md_events.specs.Exact.Prefixes.{begin, begins, following_all, blocks_before, containers, end_in_item}
use Rattle.md_events.specs.Exact.Prefixes.{further_prefixes}
use Rattle.md_events.specs.Exact.Prefixes.{taken_prefixes, new_containers}
use Rattle.md_events.specs.Exact.Rows.{FurtherText, Row, ends_from, next_role, next_stays, role_before, role_on, row_of}
use Rattle.md_events.specs.Exact.Rows.{rows_of}
use Rattle.proof_exact.specs.Parts.{NoItemLast}
use Rattle.proof_exact.proofs.Moved.{moved, step-moved}
use Rattle.proof_exact.specs.Parts.{joined}

-- the last of blocks with others before them
pub last-moved : (m : ℕ) (before bs : Blocks) → end_in_item m before ≡ false →
    end_in_item m (joined before bs) ≡ end_in_item m bs
last-moved m End bs e = refl
last-moved m (More a End) End e = e
last-moved m (More a End) (More b bs) e = refl
last-moved m (More a (More b before)) bs e = last-moved m (More b before) bs e

before-moved : (m depth : ℕ) (before : Blocks) (p : Path) → NoItemLast before →
    end_in_item m (blocks_before depth (moved before p)) ≡ end_in_item m (blocks_before depth p)
before-moved m depth before (At s) h = refl
before-moved m zero before (Within bs c p) h = last-moved m before bs (h m)
before-moved m (suc depth) before (Within bs c p) h = refl

begin-moved : (line : TextLine) (before : Blocks) (after : Path) (depth : ℕ) (c : Container) (r s : Rest) →
    NoItemLast before → begin line (moved before after) depth c r s ≡ begin line after depth c r s
begin-moved line before after depth (InQuote kind) r s h = refl
begin-moved line before after depth (InFootnote label) r s h = refl
begin-moved line before after depth (InItem digits marker width starts_blank) r s h =
    ap
    (λ (x : Bool).
    begin_by x)
    (before-moved marker depth before after h)
  where
    begin_by : Bool → List Event
    begin_by x =
        (cond x [] (enter (list_name marker) (place line r) ∷ []))
        ++ enter n.ListItem (place line r)
        ∷ item_prefix line digits r s

begins-moved : (line : TextLine) (before : Blocks) (after : Path) (depth : ℕ) (r : Rest) (ts : List Taken) →
    NoItemLast before → begins line (moved before after) depth r ts ≡ begins line after depth r ts
begins-moved line before after depth r [] h = refl
begins-moved line before after depth r (t ∷ ts) h =
    ap₂ (λ (a b : List Event). a ++ b) (begin-moved line before after depth t.container r t.rest h)
    (begins-moved line before after (suc depth) t.rest ts h)

held-moved : (before : Blocks) (p : Path) → containers (moved before p) ≡ containers p
held-moved before (At s) = refl
held-moved before (Within bs c p) = refl

-- a row, by what is open after it
abbrev pub row_to : ParseOptions → Path → TextLine → List Row → List Container → List Event → Row
row_to options p line below held begun =
    let on = taken_prefixes options p (whole line) in
    let all = length on == length (containers p) in
    let inner = following_all (whole line) on in
    let new = new_containers options p all inner in
    let rest = following_all inner new in
    let none_opens = length new == 0 in
    let lazy = not all && none_opens && is_some (with_lazy options (spot p).leaf rest) in
    let leaf = cond (all && none_opens) (spot p).leaf NoLeaf in
    record {
      line = line;
      stays = cond lazy (length (containers p)) (length on);
      held = held;
      front = further_prefixes line (whole line) on ++ begun;
      rest = rest;
      role = role_before (next_role below) rest (cond lazy FurtherText (role_on options leaf rest));
      ends = ends_from (next_stays below) (drop (next_stays below) held) (place line (line_end line)) below;
    }

-- what begins on it
abbrev pub begun_on : ParseOptions → Path → TextLine → Path → List Event
begun_on options p line after =
    let on = taken_prefixes options p (whole line) in
    let all = length on == length (containers p) in
    let inner = following_all (whole line) on in
    begins line after (length on) inner (new_containers options p all inner)

pub row-is : (options : ParseOptions) (p : Path) (line : TextLine) (below : List Row) →
    row_of options p line below
    ≡ row_to options p line below (containers (step options p (whole line)))
    (begun_on options p line (step options p (whole line)))
row-is options p line below = refl

row-of-moved : (options : ParseOptions) (before : Blocks) (p : Path) (line : TextLine) (below : List Row)
    (held : List Container) (begun : List Event) →
    row_to options (moved before p) line below held begun ≡ row_to options p line below held begun
row-of-moved options before (At s) line below held begun = refl
row-of-moved options before (Within bs c p) line below held begun = refl

begun-moved : (options : ParseOptions) (before : Blocks) (p : Path) (line : TextLine) (after : Path) →
    begun_on options (moved before p) line after ≡ begun_on options p line after
begun-moved options before (At s) line after = refl
begun-moved options before (Within bs c p) line after = refl

row-moved : (options : ParseOptions) (before : Blocks) (p : Path) (line : TextLine) (below : List Row) →
    NoItemLast before → row_of options (moved before p) line below ≡ row_of options p line below
row-moved options before p line below h =
    let after : Path = step options p (whole line) in
    let on = taken_prefixes options p (whole line) in
    let inner = following_all (whole line) on in
    let step_is = step-moved options before p (whole line) in
    ap (λ (q : Path). row_to options (moved before p) line below (containers q)
    (begun_on options (moved before p) line q)) step_is
    ∙ row-of-moved options before p line below (containers (moved before after))
    (begun_on options (moved before p) line (moved before after))
    ∙ ap₂ (row_to options p line below) (held-moved before after)
    (begun-moved options before p line (moved before after)
    ∙ begins-moved line before after (length on) inner
    (new_containers options p (length on == length (containers p)) inner) h)

pub rows-moved : (options : ParseOptions) (before : Blocks) (p : Path) (lines : List TextLine) → NoItemLast before →
    rows_of options (moved before p) lines ≡ rows_of options p lines
rows-moved options before p [] h = refl
rows-moved options before p (line ∷ lines) h =
    let below = rows_of options (step options p (whole line)) lines in
    ap (λ (rows : List Row). row_of options (moved before p) line rows ∷ rows)
    (ap (λ (q : Path). rows_of options q lines) (step-moved options before p (whole line))
    ∙ rows-moved options before (step options p (whole line)) lines h)
    ∙ ap (λ (row : Row). row ∷ below) (row-moved options before p line below h)
