-- The lists around the items of a text can be determined from its events: blocks are in containers alone, and each item
-- begins with its marker.
use Rattle.md_engine.specs.declared.tokenizer.held_leaf.HeldLeaf.TheVariants as held_leaf
use Rattle.std.proofs.Common.{◌≡◌, ℕ, Bool, List, [], ◌∷◌, ◌++◌, refl, ap, sym, subst, append_assoc}
use Rattle.md_engine.specs.declared.configuration.ParseOptions.{ParseOptions}
use Rattle.md_engine.specs.declared.event.Event.{Event}
use Rattle.md_engine.specs.declared.event.Name.{Name}
use Rattle.md_engine.specs.declared.event.Point.{Point}
use Rattle.md_containers.specs.ItemsAllowed.{ItemsAllowed, Site, is_item_shape, root}
use Rattle.md_containers.specs.Listed.{is_item}
use Rattle.md_containers.proofs.UnlistedLemmas.{ItemsLead, among, are_valid-append, valid-append}
use Rattle.md_meaning.specs.State.{Container}
use Rattle.md_events.specs.Events.Nested.{enter, exit}
use Rattle.md_events.specs.Events.Spelled.{role}
use Rattle.md_events.proofs.SpelledLemmas.{Between}
use Rattle.proof_frame.specs.Change.{ends_of}
use Rattle.proof_frame.specs.ContainerNames.{container_name, shape_of}
use Rattle.proof_frame.specs.Row.{Row, ending_events}
use Rattle.proof_rows.specs.Rows.{Group, final_row, first_row, front_done, group_done, groups, groups_events}
use Rattle.proof_rows.specs.Rows.{group_ending, is_blank_group}
use Rattle.proof_frame.proofs.ContainerNames.{container-facts, open_names}
use Rattle.proof_frame.proofs.FrontFacts.{Begins, Following, Proceeds, LinePrefix}
use Rattle.proof_frame.proofs.LeafAllowed.{between-are_valid, ending-between, moves-are_valid}
use Rattle.proof_rows.proofs.NestedRows.{ByGroups, Keeps, Ordered, rows-hold}
use Rattle.proof_frame.proofs.PrefixNames.{prefixes-roles}
use Rattle.proof_rows.proofs.RowFacts.{AreRows}
use Rattle.proof_leaf_laws.proofs.Frontmatter.Whole.{FrontPart}
use Rattle.md_engine.specs.Place.{first_point}

-- What is open.

-- for each of these names, whether it is that of an item
abbrev items_of : List Name → List Bool
items_of [] = []
items_of (name ∷ names) = is_item (role name) ∷ items_of names

-- one is between the blocks of containers with these names
abbrev under : List Name → Site
under names = among (items_of names)

-- one more container is open
under-more : (c : Container) (names : List Name) →
    under (container_name c ∷ names) ≡ among (is_item_shape (shape_of c) ∷ items_of names)
under-more c names = ap (λ (item : Bool). among (item ∷ items_of names)) (container-facts c).item_role

-- Lines.

-- after what is before a line the containers are open that begin in it
fronts-are_valid : (bytes : List ℕ) (opens : List Container) (names : List Name) (p q : Point) (front : List Event) →
    LinePrefix bytes opens p q front → ItemsLead bytes (under names) (under (open_names opens ++ names)) front
fronts-are_valid bytes _ names p _ _ (Following _) = record { are_valid = tt; following = refl }
fronts-are_valid bytes opens names p r _ (Proceeds _ _ q _ es fs is more) =
    valid-append bytes (under names) (under names) (under (open_names opens ++ names)) es fs
    (between-are_valid bytes (items_of names) es (prefixes-roles Between es tt tt tt is.names))
    (fronts-are_valid bytes opens names q r fs more)
fronts-are_valid bytes _ names p r _ (Begins c opens _ q _ es fs is more) =
    let name : Name = container_name c in
    subst (λ (l : List Name). ItemsLead bytes (under names) (under l) (enter name p ∷ es ++ fs))
    (sym (append_assoc (open_names opens) (name ∷ []) names))
    (valid-append bytes (under names) (under (name ∷ names)) (under (open_names opens ++ name ∷ names))
    (enter name p ∷ es) fs
    (subst (λ (site : Site). ItemsLead bytes (under names) site (enter name p ∷ es)) (sym (under-more c names))
    (is.valid (items_of names)))
    (fronts-are_valid bytes opens (name ∷ names) q r fs more))

-- containers end
ends-are_valid : (bytes : List ℕ) (cs : List Container) (names : List Name) (p : Point) →
    ItemsLead bytes (under (open_names cs ++ names)) (under names) (ends_of cs p)
ends-are_valid bytes [] names p = record { are_valid = tt; following = refl }
ends-are_valid bytes (c ∷ cs) names p =
    let name : Name = container_name c in
    subst (λ (l : List Name). ItemsLead bytes (under l) (under names) (ends_of cs p ++ exit name p ∷ []))
    (sym (append_assoc (open_names cs) (name ∷ []) names))
    (valid-append bytes (under (open_names cs ++ name ∷ names)) (under (name ∷ names)) (under names) (ends_of cs p)
    (exit name p ∷ []) (ends-are_valid bytes cs (name ∷ names) p)
    (subst (λ (site : Site). ItemsLead bytes site (under names) (exit name p ∷ [])) (sym (under-more c names))
    (moves-are_valid bytes (among (is_item_shape (shape_of c) ∷ items_of names)) (under names) (exit name p)
    ((container-facts c).ends bytes (items_of names) p))))

-- Groups.

-- events before others
are_valid-through : (bytes : List ℕ) (from to : Site) (xs ys : List Event) → ItemsLead bytes from to xs →
    ItemsAllowed bytes to ys → ItemsAllowed bytes from (xs ++ ys)
are_valid-through bytes from to xs ys h k =
    are_valid-append bytes from xs ys h.are_valid
    (subst (λ (site : Site). ItemsAllowed bytes site ys) (sym h.following) k)

-- those of groups
abbrev GroupsValid : ParseOptions → List ℕ → List Name → Point → List Group → Type 0
GroupsValid options bytes names p gs = ItemsAllowed bytes (under names) (groups_events options bytes gs)

-- a group before others
group-valid : (options : ParseOptions) (bytes : List ℕ) (names kept : List Name) (p : Point) (group : Group)
    (gs : List Group) →
    Ordered options bytes p group → Keeps names group kept → GroupsValid options bytes kept p gs →
    GroupsValid options bytes names p (group ∷ gs)
group-valid options bytes names kept p group gs o keeps on =
    subst (ItemsAllowed bytes (under names)) (sym apart)
    (are_valid-through bytes (under names) (under all) front (leaf ++ (ends ++ (ending ++ events)))
    (fronts-are_valid bytes row.change.opens names p row.first front o.front_read.is)
    (are_valid-through bytes (under all) (under all) leaf (ends ++ (ending ++ events)) (o.leaf.1.valid (items_of all))
    (are_valid-through bytes (under all) (under kept) ends (ending ++ events)
    (subst (λ (l : List Name). ItemsLead bytes (under l) (under kept) ends) (sym keeps)
    (ends-are_valid bytes last.closed_after kept last.end))
    (are_valid-through bytes (under kept) (under kept) ending events
    (between-are_valid bytes (items_of kept) ending (ending-between (is_blank_group group) last)) on))))
  where
    row : Row
    row = first_row group

    last : Row
    last = final_row group

    all : List Name
    all = open_names row.change.opens ++ names

    leaf : List Event
    leaf = group_done options bytes group

    ends : List Event
    ends = ends_of last.closed_after last.end

    ending : List Event
    ending = ending_events (group_ending group) last

    events : List Event
    events = groups_events options bytes gs

    front : List Event
    front = front_done bytes row

    apart : (front ++ leaf ++ (ends ++ ending)) ++ events ≡ front ++ (leaf ++ (ends ++ (ending ++ events)))
    apart = simp append_assoc

valid-by_groups : (options : ParseOptions) (bytes : List ℕ) → ByGroups options bytes (GroupsValid options bytes)
valid-by_groups options bytes = record {
  none = λ p. tt;
  group = λ names kept p group gs o keeps on. group-valid options bytes names kept p group gs o keeps on;
}

-- The events of the lines,
pub rows-are_valid : (options : ParseOptions) (bytes : List ℕ) (p : Point) (lines : List (List ℕ)) (rows : List Row) →
    AreRows options bytes [] held_leaf.None p lines rows →
    ItemsAllowed bytes root (groups_events options bytes (groups rows))
rows-are_valid options bytes p lines rows are =
    rows-hold options bytes (GroupsValid options bytes) (valid-by_groups options bytes) p lines rows are

-- and those of a text, with its front.
pub events-are_valid : (options : ParseOptions) (bytes : List ℕ) (p : Point) (front : List Event)
    (lines : List (List ℕ))
    (rows : List Row) →
    FrontPart bytes first_point p front → AreRows options bytes [] held_leaf.None p lines rows →
    ItemsAllowed bytes root (front ++ groups_events options bytes (groups rows))
events-are_valid options bytes p front lines rows part are =
    are_valid-through bytes root root front (groups_events options bytes (groups rows)) part.valid
    (rows-are_valid options bytes p lines rows are)
