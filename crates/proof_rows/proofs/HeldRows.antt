-- Items begin directly in blocks, or outside of all, before the text parts of a text are read and once they are.
use Rattle.md_engine.specs.declared.tokenizer.held_leaf.HeldLeaf.TheVariants as held_leaf
use Rattle.std.specs.Prelude.{None, Option, Some}
use Rattle.std.proofs.Common.{◌≡◌, ℕ, Bool, true, false, cond, List, [], ◌∷◌, ◌++◌, refl, sym, subst, append_assoc}
use Rattle.md_engine.specs.declared.configuration.ParseOptions.{ParseOptions}
use Rattle.md_engine.specs.declared.event.Event.{Event}
use Rattle.md_engine.specs.declared.event.Kind.TheVariants.{Enter}
use Rattle.md_engine.specs.declared.event.Name.{Name}
use Rattle.md_engine.specs.declared.event.Name.TheVariants as n
use Rattle.md_engine.specs.declared.event.Point.{Point}
use Rattle.md_containers.specs.ItemsHeld.{HoldsItems, IsHeld, ItemsHeld}
use Rattle.md_containers.specs.Listed.{Begins as TurnBegins, Stays as TurnStays, is_item, turn}
use Rattle.md_containers.proofs.UnlistedLemmas.{NoListing, held-append}
use Rattle.md_engine.specs.Place.{first_point}
use Rattle.md_meaning.specs.State.{Container}
use Rattle.md_events.specs.Events.Blocks.{is_block}
use Rattle.md_events.specs.Events.Nested.{exit, open_after}
use Rattle.md_events.specs.Events.Spelled.{Role, role}
use Rattle.md_events.proofs.NestedLemmas.{balanced-open}
use Rattle.md_events.proofs.SpelledLemmas.{Between}
use Rattle.proof_frame.specs.Change.{ends_of}
use Rattle.proof_frame.specs.ContainerNames.{container_name}
use Rattle.proof_frame.specs.Row.{Row, ending_events}
use Rattle.proof_rows.specs.Rows.{Group, final_row, first_row, front_done, group_done, groups, groups_events}
use Rattle.proof_rows.specs.Rows.{tail_events, group_ending, is_blank_group}
use Rattle.proof_rows.specs.BlockList.{group_unread, tabled_groups}
use Rattle.proof_frame.proofs.ContainerNames.{container-facts, open_names}
use Rattle.proof_frame.proofs.FrontFacts.{Begins, Following, Proceeds, LinePrefix}
use Rattle.proof_frame.proofs.FrontLemmas.{Turns, ends-turn, fronts-turn}
use Rattle.proof_frame.proofs.NestFacts.{KeepsItems, balanced-items, end-held, held-through, unlisted-held}
use Rattle.proof_frame.proofs.LeafAllowed.{between-unlisted, ending-between, roles-unlisted}
use Rattle.proof_rows.proofs.NestedRows.{ByGroups, Keeps, rows-hold}
use Rattle.proof_frame.proofs.PrefixNames.{prefixes-roles}
use Rattle.proof_rows.proofs.RowFacts.{AreRows}
use Rattle.proof_leaf_laws.proofs.Frontmatter.Whole.{FrontPart}

-- What is open.

-- each of these names is that of a block
abbrev pub AreBlocks : List Name → Type 0
AreBlocks [] = Unit {0}
AreBlocks (name ∷ names) = (is_block (role name) ≡ true) × AreBlocks names

blocks-append : (xs ys : List Name) → AreBlocks xs → AreBlocks ys → AreBlocks (xs ++ ys)
blocks-append [] ys h k = k
blocks-append (name ∷ xs) ys h k = (h.0, blocks-append xs ys h.1 k)

blocks-following : (xs ys : List Name) → AreBlocks (xs ++ ys) → AreBlocks ys
blocks-following [] ys h = h
blocks-following (name ∷ xs) ys h = blocks-following xs ys h.1

-- as those of containers are
containers-blocks : (cs : List Container) → AreBlocks (open_names cs)
containers-blocks [] = tt
containers-blocks (c ∷ cs) =
    blocks-append (open_names cs) (container_name c ∷ []) (containers-blocks cs) ((container-facts c).block_role, tt)

-- an item may begin in them
blocks-hold : (names : List Name) → AreBlocks names → HoldsItems names
blocks-hold [] h = tt
blocks-hold (name ∷ names) h = h.0

-- Events.

-- what begins in blocks may be an item
begin-held : (x : Role) (names : List Name) → HoldsItems names → IsHeld (turn Enter x) names
begin-held x names h = go (is_item x)
  where
    go : (item : Bool) → IsHeld (cond item TurnBegins TurnStays) names
    go true = h
    go false = tt

-- Lines.

-- what is before a line
fronts-held : (bytes : List ℕ) (opens : List Container) (names : List Name) (p q : Point) (front : List Event) →
    AreBlocks names → LinePrefix bytes opens p q front → ItemsHeld names front
fronts-held bytes _ names p _ _ blocks (Following _) = tt
fronts-held bytes opens names p r _ blocks (Proceeds _ _ q _ es fs is more) =
    held-through names names es fs
    (unlisted-held names es (between-unlisted es (prefixes-roles Between es tt tt tt is.names)))
    (balanced-open names es is.common.nested.0) (fronts-held bytes opens names q r fs blocks more)
fronts-held bytes _ names p r _ blocks (Begins c opens _ q _ es fs is more) =
    let name : Name = container_name c in (
      begin-held (role name) names (blocks-hold names blocks),
      held-through (name ∷ names) (name ∷ names) es fs (unlisted-held (name ∷ names) es is.unlisted)
          (balanced-open (name ∷ names) es is.common.nested.0)
          (fronts-held bytes opens (name ∷ names) q r fs ((container-facts c).block_role, blocks) more),
    )

-- the ends of containers
ends-held : (cs : List Container) (names : List Name) (p : Point) → ItemsHeld names (ends_of cs p)
ends-held [] names p = tt
ends-held (c ∷ cs) names p =
    held-append names (ends_of cs p) (exit (container_name c) p ∷ []) (ends-held cs names p)
    (end-held (role (container_name c)) (open_after names (ends_of cs p)), tt)

-- after the ending of a line that is open which was
ending-opens : (name : Name) (row : Row) (names : List Name) → open_after names (ending_events name row) ≡ names
ending-opens name row names = go row.after
  where
    go : (after : Option Point) → open_after names (ending_events name (record row { after = after })) ≡ names
    go None = refl
    go (Some q) = refl

-- Groups.

-- a group before such events, with what is in its place and before it
pub group-held : (options : ParseOptions) (bytes : List ℕ) (names kept : List Name) (p : Point) (group : Group)
    (front inside events : List Event) →
    LinePrefix bytes (first_row group).change.opens p (first_row group).first front → Keeps names group kept →
    AreBlocks names → KeepsItems inside → (AreBlocks kept → ItemsHeld kept events) →
    ItemsHeld names
    ((front ++ inside ++ tail_events (group_ending group) (final_row group)) ++ events)
group-held options bytes names kept p group front inside events is keeps blocks items on =
    subst (ItemsHeld names) (sym apart)
    (held-through names all front (inside ++ (ends ++ (ending ++ events)))
    (fronts-held bytes row.change.opens names p row.first front blocks is)
    (fronts-turn bytes row.change.opens names p row.first front is).opened
    (items all (ends ++ (ending ++ events))
    (held-through all kept ends (ending ++ events) (ends-held last.closed_after all last.end)
    (subst (λ (l : List Name). Turns l kept ends) (sym keeps) (ends-turn last.closed_after kept last.end)).opened
    (held-through kept kept ending events (unlisted-held kept ending quiet)
    (ending-opens (group_ending group) last kept) (on left)))))
  where
    row : Row
    row = first_row group

    last : Row
    last = final_row group

    all : List Name
    all = open_names row.change.opens ++ names

    ends : List Event
    ends = ends_of last.closed_after last.end

    ending : List Event
    ending = ending_events (group_ending group) last

    quiet : NoListing ending
    quiet = between-unlisted ending (ending-between (is_blank_group group) last)

    left : AreBlocks kept
    left =
        blocks-following (open_names last.closed_after) kept
        (subst AreBlocks keeps (blocks-append (open_names row.change.opens) names
        (containers-blocks row.change.opens) blocks))

    apart : (front ++ inside ++ (ends ++ ending)) ++ events ≡ front ++ (inside ++ (ends ++ (ending ++ events)))
    apart = simp append_assoc

-- before text parts are read
abbrev UnreadHeld : ParseOptions → List ℕ → List Name → Point → List Group → Type 0
UnreadHeld options bytes names p gs = AreBlocks names → ItemsHeld names (tabled_groups options bytes gs)

unread-by_groups : (options : ParseOptions) (bytes : List ℕ) → ByGroups options bytes (UnreadHeld options bytes)
unread-by_groups options bytes = record {
  none = λ p blocks. tt;
  group = λ names kept p group gs o keeps on blocks.
      group-held options bytes names kept p group (first_row group).front (group_unread options bytes group)
      (tabled_groups options bytes gs) o.front keeps blocks
      (balanced-items (group_unread options bytes group) o.leaf.1.stretch.unread_nested.0
      (roles-unlisted (group_unread options bytes group) o.leaf.1.stretch.unread_roles)) on;
}

-- and once they are
abbrev ReadHeld : ParseOptions → List ℕ → List Name → Point → List Group → Type 0
ReadHeld options bytes names p gs = AreBlocks names → ItemsHeld names (groups_events options bytes gs)

read-by_groups : (options : ParseOptions) (bytes : List ℕ) → ByGroups options bytes (ReadHeld options bytes)
read-by_groups options bytes = record {
  none = λ p blocks. tt;
  group = λ names kept p group gs o keeps on blocks.
      group-held options bytes names kept p group (front_done bytes (first_row group)) (group_done options bytes group)
      (groups_events options bytes gs) o.front_read.is keeps blocks
      (balanced-items (group_done options bytes group) o.leaf.1.stretch.nested.0
      (roles-unlisted (group_done options bytes group) o.leaf.1.stretch.roles)) on;
}

-- The events of a text, with its front.

front-held : (bytes : List ℕ) (p : Point) (front es : List Event) → FrontPart bytes first_point p front →
    ItemsHeld [] es → ItemsHeld [] (front ++ es)
front-held bytes p front es part h =
    held-through [] [] front es (unlisted-held [] front (roles-unlisted front part.stretch.roles))
    part.stretch.nested.0.closed h

pub blocks-held : (options : ParseOptions) (bytes : List ℕ) (p : Point) (front : List Event) (lines : List (List ℕ))
    (rows : List Row) →
    FrontPart bytes first_point p front → AreRows options bytes [] held_leaf.None p lines rows →
    ItemsHeld [] (front ++ tabled_groups options bytes (groups rows))
blocks-held options bytes p front lines rows part are =
    front-held bytes p front (tabled_groups options bytes (groups rows)) part
    (rows-hold options bytes (UnreadHeld options bytes) (unread-by_groups options bytes) p lines rows are tt)

pub events-held : (options : ParseOptions) (bytes : List ℕ) (p : Point) (front : List Event) (lines : List (List ℕ))
    (rows : List Row) →
    FrontPart bytes first_point p front → AreRows options bytes [] held_leaf.None p lines rows →
    ItemsHeld [] (front ++ groups_events options bytes (groups rows))
events-held options bytes p front lines rows part are =
    front-held bytes p front (groups_events options bytes (groups rows)) part
    (rows-hold options bytes (ReadHeld options bytes) (read-by_groups options bytes) p lines rows are tt)
