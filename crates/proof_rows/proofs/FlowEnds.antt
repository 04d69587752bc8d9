-- Flow takes every text to its end.
use Rattle.std.proofs.Common.{◌≡◌, ℕ, zero, suc, ◌<◌, ◌≤◌, Bool, true, false, List, [], ◌∷◌}
use Rattle.std.proofs.Common.{length, Option, Some, None, refl, arith}
use Rattle.md_registry.specs.Registry.{asked_first, bars_containers, begins_at, continues_at, leaf, openers, trials}
use Rattle.md_registry.specs.FlowRule.{all_on, blank_at_end, inside_by, inside_of, following_leaf, asking_here}
use Rattle.md_registry.specs.FlowRule.{after_containers, blank_ended, content_of, ended, ended_to, existing_at}
use Rattle.md_registry.specs.FlowRule.{existing_by, existing_from, opens_of, flow_at, flow_lines, leaf_of, leaves_of}
use Rattle.md_registry.specs.FlowRule.{line_ended, line_then, new_from, new_of, opened}
use Rattle.md_engine.specs.declared.configuration.ParseOptions.{ParseOptions}
use Rattle.md_engine.specs.declared.tokenizer.container.Container.{Container}
use Rattle.md_engine.specs.declared.tokenizer.Scratch.{Scratch}
use Rattle.md_engine.specs.Meaning.{Accepts, Cell, Fails, Here, Outcome, Refuses}
use Rattle.md_engine.specs.declared.tokenizer.container.name.ContainerKind.{ContainerKind}
use Rattle.md_engine.specs.World.{Flags, container_of}
use Rattle.md_content.specs.ChunkRule.{chunk_at, inside_chunk}
use Rattle.md_leaves.specs.BlankRule.{blank_at}
use Rattle.md_events.specs.Look.{first_seen}
use Rattle.md_events.specs.Spaces.{ends_line}
use Rattle.md_events.proofs.FeedLines.{Stops}
use Rattle.proof_frame.specs.Rule.{Rule, tried}
use Rattle.md_registry.specs.LineFlags.{begun_line, blanked, ended_on, next_container, shut_leaf, kept_containers}
use Rattle.md_registry.specs.LineFlags.{was_continued}
use Rattle.proof_frame.specs.LeafName.{LeafName}
use Rattle.md_registry.proofs.FlowLemmas.{blank_at-shrinks, chunk_at-shrinks}
use Rattle.proof_frame.proofs.FromEnding.{stops-same}
use Rattle.proof_frame.proofs.LeafLaws.{Shrinks}
use Rattle.md_registry.proofs.Registry.{container-laws, laws}
use Rattle.md_containers.proofs.Shorter.{Shortens}

-- all is taken
abbrev pub Finishes : Outcome → Type 0
Finishes (Accepts h rest) = rest ≡ []
Finishes (Refuses s g) = ⊥
Finishes Fails = ⊥

-- a rule that takes shorter texts to their end
abbrev Ends : ℕ → Rule → Type 0
Ends n next = (cells : List Cell) (h : Here) → length cells < n → Finishes (next cells h)

ended-finishes : (n : ℕ) (next : Rule) → Ends n next → (cells : List Cell) (h : Here) → Stops cells → length cells ≤ n →
    Finishes (ended next cells h)
ended-finishes n next ends [] h at le = refl
ended-finishes n next ends (c ∷ cs) h at le = rw at (ends cs _ (omega arith))

line_ended-finishes : (n : ℕ) (next : Rule) → Ends n next → (cells : List Cell) (h : Here) → Stops cells →
    length cells ≤ n → Finishes (line_ended next cells h)
line_ended-finishes n next ends cells h at le =
    ended-finishes n next ends cells (ended_to (kept_containers h.flags) h.flags.line_end h) at le

tried-finishes : (n : ℕ) (onward : Rule) (otherwise : Scratch → Flags → Outcome) (o : Outcome) → Shrinks n o →
    ((cells : List Cell) (h : Here) → Stops cells → length cells ≤ n → Finishes (onward cells h)) →
    ((s : Scratch) (g : Flags) → Finishes (otherwise s g)) → Finishes (tried o onward otherwise)
tried-finishes n onward otherwise (Accepts h rest) shrinks a b = a rest h (stops-same rest shrinks.1) shrinks.0
tried-finishes n onward otherwise (Refuses s g) shrinks a b = b s g
tried-finishes n onward otherwise Fails shrinks a b = absurd shrinks

-- content takes every line
abbrev Takes : Outcome → Type 0
Takes (Accepts h rest) = Unit {0}
Takes _ = ⊥

chunk_at-takes : (cells : List Cell) (h : Here) → Takes (chunk_at cells h)
unfolding chunk_at inside_chunk
chunk_at-takes cells h = tt

content-finishes : (next : Rule) (cells : List Cell) (h : Here) → Ends (length cells) next →
    Finishes (content_of next cells h)
content-finishes next cells h ends = go (chunk_at cells h) (chunk_at-takes cells h) (chunk_at-shrinks cells h)
  where
    go : (o : Outcome) → Takes o → Shrinks (length cells) o → Finishes (tried o (line_ended next) Refuses)
    go (Accepts k rest) t shrinks = line_ended-finishes _ next ends rest k (stops-same rest shrinks.1) shrinks.0
    go (Refuses s g) t shrinks = absurd t
    go Fails t shrinks = absurd t

-- so one of the leaves that are tried does, or content after them
leaves-finish : (options : ParseOptions) (next : Rule) (ls : List LeafName) (cells : List Cell) (h : Here) →
    Ends (length cells) next →
    Finishes (leaves_of options next ls cells h)
leaves-finish options next [] cells h ends = content-finishes next cells h ends
leaves-finish options next (l ∷ ls) cells h ends =
    tried-finishes _ (following_leaf (leaf l).ends next) _ ((leaf l).trial options cells h)
    ((laws l).shrinks options cells h) (following (leaf l).ends)
    (λ s g. leaves-finish options next ls cells (record h { scratch = s; flags = g }) ends)
  where
    following : (x : Bool) (rest : List Cell) (k : Here) → Stops rest → length rest ≤ length cells →
        Finishes (following_leaf x next rest k)
    following true rest k at le = line_ended-finishes _ next ends rest (record k { flags = shut_leaf k.flags }) at le
    following false rest k at le = line_ended-finishes _ next ends rest k at le

leaf-finishes : (options : ParseOptions) (next : Rule) (cells : List Cell) (h : Here) → Ends (length cells) next →
    Finishes (leaf_of options next cells h)
leaf-finishes options next cells h ends =
    tried-finishes _ (blank_ended next) _ (blank_at cells h) (blank_at-shrinks cells h)
    (λ rest k at le. line_ended-finishes _ next ends rest (record k { flags = blanked k.flags }) at le)
    (λ s g. leaves-finish options next trials cells (record h { scratch = s; flags = g }) ends)

-- and where a leaf is asked first
inside-finishes : (options : ParseOptions) (next : Rule) (cells : List Cell) (h : Here) → Ends (length cells) next →
    Finishes (inside_of options next cells h)
inside-finishes options next cells h ends = go (asked_first h.flags.leaf)
  where
    go : (o : Option LeafName) → Finishes (inside_by options next o cells h)
    go None = leaf-finishes options next cells h ends
    go (Some l) =
        tried-finishes _ (line_ended next) _ ((leaf l).trial options cells (blank_at_end cells h))
        ((laws l).shrinks options cells (blank_at_end cells h))
        (λ rest k at le. line_ended-finishes _ next ends rest k at le)
        (λ s g. leaf-finishes options next cells (record h { scratch = s; flags = g }) ends)

following-finishes : (options : ParseOptions) (next : Rule) (cells : List Cell) (h : Here) → Ends (length cells) next →
    Finishes (after_containers options next cells h)
following-finishes options next cells h ends =
    inside-finishes options next cells (record h { flags = begun_line h.flags }) ends

-- Containers.

tried-shorter : (n : ℕ) (onward : Rule) (otherwise : Scratch → Flags → Outcome) (o : Outcome) → Shortens n o →
    Ends n onward → ((s : Scratch) (g : Flags) → Finishes (otherwise s g)) → Finishes (tried o onward otherwise)
tried-shorter n onward otherwise (Accepts h rest) t a b = a rest h t
tried-shorter n onward otherwise (Refuses s g) t a b = b s g
tried-shorter n onward otherwise Fails t a b = absurd t

-- it takes still shorter texts to their end
shorter : (n m : ℕ) (next : Rule) → m ≤ n → Ends n next → Ends m next
shorter n m next le ends cells h lt = ends cells h (omega (arith, le, lt))

-- those that are tried one after another
opens-finish : (options : ParseOptions) (onward otherwise : Rule) (ks : List ContainerKind) (cells : List Cell)
    (h : Here) →
    Ends (length cells) onward → ((k : Here) → Finishes (otherwise cells k)) →
    Finishes (opens_of options onward otherwise ks cells h)
opens-finish options onward otherwise [] cells h ends last = last h
opens-finish options onward otherwise (k ∷ ks) cells h ends last =
    tried-shorter (length cells) onward _ (begins_at options k cells (asking_here (container_of k) h))
    ((container-laws k).begins_shorter options cells (asking_here (container_of k) h)) ends
    (λ s g. opens-finish options onward otherwise ks cells (record h { scratch = s; flags = g }) ends last)

new-finishes : (options : ParseOptions) (next : Rule) (n : ℕ) (cells : List Cell) (h : Here) →
    Ends (length cells) next → Finishes (new_from options next n cells h)
unfolding new_from
new-finishes options next zero cells h ends =
    following-finishes options next cells h ends
new-finishes options next (suc n) cells h ends =
    opens-finish options (λ rest k. new_from options next n rest (opened k)) (after_containers options next) openers
    cells h
    (λ rest k lt.
    new-finishes options next n rest (opened k) (shorter (length cells) (length rest) next (omega (arith, lt)) ends))
    (λ k. following-finishes options next cells k ends)

opened-finishes : (options : ParseOptions) (next : Rule) (cells : List Cell) (h : Here) → Ends (length cells) next →
    Finishes (new_of options next cells h)
unfolding new_of
opened-finishes options next cells h ends = new-finishes options next (suc (length cells)) cells h ends

asked-finishes : (options : ParseOptions) (next further : Rule) (o : Option Container) (cells : List Cell) (h : Here) →
    ends_line (first_seen cells) ≡ false → Ends (length cells) next → Ends (length cells) further →
    Finishes (existing_by options next further o cells h)
asked-finishes options next further None cells h e ends more = go (bars_containers h.flags.leaf)
  where
    go : (x : Bool) → Finishes (all_on options next x cells h)
    go true = following-finishes options next cells h ends
    go false = opened-finishes options next cells h ends
asked-finishes options next further (Some c) cells h e ends more =
    tried-shorter (length cells) _ _ (continues_at options c.kind cells (asking_here c h))
    ((container-laws c.kind).continues_shorter options cells (asking_here c h) e)
    (λ rest k lt. more rest (record k { flags = was_continued k.flags }) lt)
    (λ s g. opened-finishes options next cells (record h { scratch = s; flags = g }) ends)

at-finishes : (options : ParseOptions) (next further : Rule) (x : Bool) (cells : List Cell) (h : Here) →
    ends_line (first_seen cells) ≡ x → Ends (length cells) next → Ends (length cells) further →
    Finishes (existing_at options next further x cells h)
at-finishes options next further true cells h e ends more =
    following-finishes options next cells (record h { flags = ended_on h.flags }) ends
at-finishes options next further false cells h e ends more =
    asked-finishes options next further (next_container h.flags) cells h e ends more

existing-finishes : (options : ParseOptions) (next : Rule) (n : ℕ) (cells : List Cell) (h : Here) →
    Ends (length cells) next → Finishes (existing_from options next n cells h)
unfolding existing_from
existing-finishes options next zero cells h ends = opened-finishes options next cells h ends
existing-finishes options next (suc n) cells h ends =
    at-finishes options next (existing_from options next n) (ends_line (first_seen cells)) cells h refl ends
    (λ rest k lt.
    existing-finishes options next n rest k (shorter (length cells) (length rest) next (omega (arith, lt)) ends))

-- Lines.

lines-finish : (options : ParseOptions) (n : ℕ) → Ends n (flow_lines options n)
unfolding flow_lines line_then
lines-finish options zero cells h lt = absurd (omega arith)
lines-finish options (suc n) cells h lt =
    existing-finishes options (flow_lines options n) (suc (length cells)) cells h
    (λ rest k le. lines-finish options n rest k (omega arith))

pub flow_finishes : (options : ParseOptions) (cells : List Cell) (h : Here) → Finishes (flow_at options cells h)
unfolding flow_at
flow_finishes options cells h = lines-finish options (suc (length cells)) cells h (omega arith)
