-- Flow goes line by line.
use Rattle.std.proofs.Common.{◌≡◌, ℕ, zero, suc, ◌<◌, ◌≤◌, Bool, true, false, cond, nat_eq}
use Rattle.std.proofs.Common.{List, [], ◌∷◌, length, Option, Some, None}
use Rattle.md_registry.specs.Registry.{asked_first, bars_containers, begins_at, continues_at, leaf, openers, trials}
use Rattle.md_registry.specs.FlowRule.{all_on, blank_at_end, inside_by, inside_of, following_leaf, asking_here}
use Rattle.md_registry.specs.FlowRule.{after_containers, blank_ended, ended, ended_to, existing_by, existing_at}
use Rattle.md_registry.specs.FlowRule.{existing_from, flow_at, flow_lines, leaf_ended, leaf_of, leaves_of, line_ended}
use Rattle.md_registry.specs.FlowRule.{line_then, new_from, new_of, opened, openers_of, opens_of}
use Rattle.std.proofs.Common.{refl, ap, arith}
use Rattle.md_engine.specs.declared.configuration.ParseOptions.{ParseOptions}
use Rattle.md_engine.specs.declared.tokenizer.container.Container.{Container}
use Rattle.md_engine.specs.declared.tokenizer.Scratch.{Scratch}
use Rattle.md_engine.specs.Meaning.{Accepts, Cell, Fails, Here, Outcome, Refuses}
use Rattle.md_engine.specs.declared.tokenizer.container.name.ContainerKind.{ContainerKind}
use Rattle.md_engine.specs.World.{Flags, container_of}
use Rattle.md_content.specs.ChunkRule.{chunk_at, inside_chunk}
use Rattle.md_leaves.specs.BlankRule.{blank_at}
use Rattle.md_events.specs.Ahead.{line_bytes}
use Rattle.md_events.specs.Look.{first_seen}
use Rattle.md_events.specs.Spaces.{ends_line}
use Rattle.md_meaning.specs.Rest.{is_blank}
use Rattle.proof_frame.specs.Rule.{Rule, tried}
use Rattle.md_registry.specs.LineFlags.{begun_line, blanked, ended_on, next_container, shut_leaf, kept_containers}
use Rattle.md_registry.specs.LineFlags.{was_continued}
use Rattle.proof_frame.specs.LeafName.{LeafName}
use Rattle.proof_frame.proofs.FromEnding.{from_ending-again}
use Rattle.proof_frame.proofs.LeafLaws.{Shrinks, cond-shrinks}
use Rattle.md_registry.proofs.Registry.{container-laws, laws}
use Rattle.md_containers.proofs.Shorter.{Shortens}
use Rattle.md_containers.proofs.QuoteCells.{ending-shorter}

-- Blank lines and content: a line is taken or refused.

pub blank_at-shrinks : (cells : List Cell) (h : Here) → Shrinks (length cells) (blank_at cells h)
unfolding blank_at
blank_at-shrinks cells h =
    cond-shrinks _ (is_blank (line_bytes cells)) _ _ (ending-shorter cells, from_ending-again cells) tt

pub chunk_at-shrinks : (cells : List Cell) (h : Here) → Shrinks (length cells) (chunk_at cells h)
unfolding chunk_at inside_chunk
chunk_at-shrinks cells h = (ending-shorter cells, from_ending-again cells)

-- Rules that continue in the same way.

-- two ways to continue that agree on shorter rests
abbrev pub Agree : ℕ → Rule → Rule → Type 0
Agree n f g = (cells : List Cell) (h : Here) → length cells < n → f cells h ≡ g cells h

-- two ways to continue after a line that agree
abbrev AgreeAt : ℕ → Rule → Rule → Type 0
AgreeAt n f g = (cells : List Cell) (h : Here) → length cells ≤ n → f cells h ≡ g cells h

ended-same : (n : ℕ) (f g : Rule) → Agree n f g → AgreeAt n (ended f) (ended g)
ended-same n f g agree [] h le = refl
ended-same n f g agree (c ∷ cs) h le =
    ap (λ (o : Outcome). cond (nat_eq c.byte 10) o (Refuses h.scratch h.flags)) (agree cs _ (omega arith))

line_ended-same : (n : ℕ) (f g : Rule) → Agree n f g → AgreeAt n (line_ended f) (line_ended g)
line_ended-same n f g agree cells h le =
    ended-same n f g agree cells (ended_to (kept_containers h.flags) h.flags.line_end h) le

blank_ended-same : (n : ℕ) (f g : Rule) → Agree n f g → AgreeAt n (blank_ended f) (blank_ended g)
blank_ended-same n f g agree cells h le = line_ended-same n f g agree cells (record h { flags = blanked h.flags }) le

leaf_ended-same : (n : ℕ) (f g : Rule) → Agree n f g → AgreeAt n (leaf_ended f) (leaf_ended g)
leaf_ended-same n f g agree cells h le = line_ended-same n f g agree cells (record h { flags = shut_leaf h.flags }) le

tried-same : (n : ℕ) (f g : Rule) → AgreeAt n f g → (o : Outcome) (a b : Scratch → Flags → Outcome) → Shrinks n o →
    ((s : Scratch) (t : Flags) → a s t ≡ b s t) → tried o f a ≡ tried o g b
tried-same n f g agree (Accepts h rest) a b shrinks same = agree rest h shrinks.0
tried-same n f g agree (Refuses s t) a b shrinks same = same s t
tried-same n f g agree Fails a b shrinks same = refl

-- the same after what takes a cell at least
tried-shorter : (n : ℕ) (f g : Rule) → Agree n f g → (o : Outcome) (a b : Scratch → Flags → Outcome) → Shortens n o →
    ((s : Scratch) (t : Flags) → a s t ≡ b s t) → tried o f a ≡ tried o g b
tried-shorter n f g agree (Accepts h rest) a b lt same = agree rest h lt
tried-shorter n f g agree (Refuses s t) a b lt same = same s t
tried-shorter n f g agree Fails a b lt same = refl

following_leaf-same : (n : ℕ) (f g : Rule) (ends : Bool) → Agree n f g →
    AgreeAt n (following_leaf ends f) (following_leaf ends g)
following_leaf-same n f g true agree = leaf_ended-same n f g agree
following_leaf-same n f g false agree = line_ended-same n f g agree

-- leaves that are tried one after another, and content after them
leaves_of-same : (options : ParseOptions) (f g : Rule) (ls : List LeafName) (cells : List Cell) (h : Here) →
    Agree (length cells) f g →
    leaves_of options f ls cells h ≡ leaves_of options g ls cells h
leaves_of-same options f g [] cells h agree =
    tried-same _ (line_ended f) (line_ended g) (line_ended-same _ f g agree) (chunk_at cells h) Refuses Refuses
    (chunk_at-shrinks cells h) (λ s t. refl)
leaves_of-same options f g (l ∷ ls) cells h agree =
    tried-same _ (following_leaf (leaf l).ends f) (following_leaf (leaf l).ends g)
    (following_leaf-same _ f g (leaf l).ends agree)
    ((leaf l).trial options cells h) _ _
    ((laws l).shrinks options cells h)
    (λ s t. leaves_of-same options f g ls cells (record h { scratch = s; flags = t }) agree)

leaf_of-same : (options : ParseOptions) (f g : Rule) (cells : List Cell) (h : Here) → Agree (length cells) f g →
    leaf_of options f cells h ≡ leaf_of options g cells h
leaf_of-same options f g cells h agree =
    tried-same _ (blank_ended f) (blank_ended g) (blank_ended-same _ f g agree) (blank_at cells h) _ _
    (blank_at-shrinks cells h)
    (λ s t. leaves_of-same options f g trials cells (record h { scratch = s; flags = t }) agree)

-- and the leaf that is asked first
inside_of-same : (options : ParseOptions) (f g : Rule) (cells : List Cell) (h : Here) → Agree (length cells) f g →
    inside_of options f cells h ≡ inside_of options g cells h
inside_of-same options f g cells h agree = go (asked_first h.flags.leaf)
  where
    go : (o : Option LeafName) → inside_by options f o cells h ≡ inside_by options g o cells h
    go None = leaf_of-same options f g cells h agree
    go (Some l) =
        tried-same _ (line_ended f) (line_ended g) (line_ended-same _ f g agree)
        ((leaf l).trial options cells (blank_at_end cells h)) _ _
        ((laws l).shrinks options cells (blank_at_end cells h))
        (λ s t. leaf_of-same options f g cells (record h { scratch = s; flags = t }) agree)

after_containers-same : (options : ParseOptions) (f g : Rule) (cells : List Cell) (h : Here) →
    Agree (length cells) f g → after_containers options f cells h ≡ after_containers options g cells h
after_containers-same options f g cells h agree =
    inside_of-same options f g cells (record h { flags = begun_line h.flags }) agree

-- Containers.

-- those that are tried one after another, where it is the same after one that opens, and where none does
opens_of-same : (options : ParseOptions) (f g a b : Rule) (ks : List ContainerKind) (cells : List Cell) (h : Here) →
    Agree (length cells) f g → ((k : Here) → a cells k ≡ b cells k) →
    opens_of options f a ks cells h ≡ opens_of options g b ks cells h
opens_of-same options f g a b [] cells h agree same = same h
opens_of-same options f g a b (k ∷ ks) cells h agree same =
    tried-shorter (length cells) f g agree (begins_at options k cells (asking_here (container_of k) h)) _ _
    ((container-laws k).begins_shorter options cells (asking_here (container_of k) h))
    (λ s t. opens_of-same options f g a b ks cells (record h { scratch = s; flags = t }) agree same)

new_from-same : (options : ParseOptions) (f g : Rule) (n : ℕ) (cells : List Cell) (h : Here) →
    Agree (length cells) f g → new_from options f n cells h ≡ new_from options g n cells h
unfolding new_from
new_from-same options f g zero cells h agree =
    after_containers-same options f g cells h agree
new_from-same options f g (suc n) cells h agree =
    opens_of-same options (λ rest k. new_from options f n rest (opened k))
    (λ rest k. new_from options g n rest (opened k))
    (after_containers options f) (after_containers options g) openers cells h
    (λ rest k lt. new_from-same options f g n rest (opened k) (λ cs j less. agree cs j (omega (arith, less, lt))))
    (λ k. after_containers-same options f g cells k agree)

-- more containers than cells change nothing
new_from-enough : (options : ParseOptions) (next : Rule) (n m : ℕ) (cells : List Cell) (h : Here) → length cells < n →
    length cells < m → new_from options next n cells h ≡ new_from options next m cells h
unfolding new_from
new_from-enough options next zero m cells h a b = absurd (omega arith)
new_from-enough options next (suc n) zero cells h a b = absurd (omega arith)
new_from-enough options next (suc n) (suc m) cells h a b =
    opens_of-same options (λ rest k. new_from options next n rest (opened k))
    (λ rest k. new_from options next m rest (opened k)) (after_containers options next)
    (after_containers options next) openers cells h
    (λ rest k lt. new_from-enough options next n m rest (opened k) (omega (arith, lt, a)) (omega (arith, lt, b)))
    (λ k. refl)

-- a container opens, or the leaf of the line follows
pub new_by_container : (options : ParseOptions) (next : Rule) (cells : List Cell) (h : Here) →
    new_of options next cells h ≡ openers_of options next openers cells h
unfolding new_of new_from
new_by_container options next cells h =
    opens_of-same options (λ rest k. new_from options next (length cells) rest (opened k))
    (λ rest k. new_of options next rest (opened k)) (after_containers options next) (after_containers options next)
    openers cells h
    (λ rest k lt. new_from-enough options next (length cells) (suc (length rest)) rest (opened k) lt (omega arith))
    (λ k. refl)

new_of-same : (options : ParseOptions) (f g : Rule) (cells : List Cell) (h : Here) → Agree (length cells) f g →
    new_of options f cells h ≡ new_of options g cells h
unfolding new_of
new_of-same options f g cells h agree = new_from-same options f g (suc (length cells)) cells h agree

existing_by-same : (options : ParseOptions) (f g further other : Rule) (o : Option Container) (cells : List Cell)
    (h : Here) →
    ends_line (first_seen cells) ≡ false → Agree (length cells) f g → Agree (length cells) further other →
    existing_by options f further o cells h ≡ existing_by options g other o cells h
existing_by-same options f g further other None cells h ends agree more = go (bars_containers h.flags.leaf)
  where
    go : (x : Bool) → all_on options f x cells h ≡ all_on options g x cells h
    go true = after_containers-same options f g cells h agree
    go false = new_of-same options f g cells h agree
existing_by-same options f g further other (Some c) cells h ends agree more =
    tried-shorter (length cells) _ _ (λ rest k lt. more rest (record k { flags = was_continued k.flags }) lt)
    (continues_at options c.kind cells (asking_here c h)) _ _
    ((container-laws c.kind).continues_shorter options cells (asking_here c h) ends)
    (λ s t. new_of-same options f g cells (record h { scratch = s; flags = t }) agree)

-- whether the line ends here or not
existing_at-same : (options : ParseOptions) (f g further other : Rule) (x : Bool) (cells : List Cell) (h : Here) →
    ends_line (first_seen cells) ≡ x → Agree (length cells) f g → Agree (length cells) further other →
    existing_at options f further x cells h ≡ existing_at options g other x cells h
existing_at-same options f g further other true cells h e agree more =
    after_containers-same options f g cells (record h { flags = ended_on h.flags }) agree
existing_at-same options f g further other false cells h e agree more =
    existing_by-same options f g further other (next_container h.flags) cells h e agree more

existing_from-same : (options : ParseOptions) (f g : Rule) (n : ℕ) (cells : List Cell) (h : Here) →
    Agree (length cells) f g → existing_from options f n cells h ≡ existing_from options g n cells h
unfolding existing_from
existing_from-same options f g zero cells h agree = new_of-same options f g cells h agree
existing_from-same options f g (suc n) cells h agree =
    existing_at-same options f g (existing_from options f n) (existing_from options g n)
    (ends_line (first_seen cells)) cells h refl agree
    (λ rest k lt. existing_from-same options f g n rest k (λ cs j less. agree cs j (omega (arith, less, lt))))

existing_from-enough : (options : ParseOptions) (next : Rule) (n m : ℕ) (cells : List Cell) (h : Here) →
    length cells < n → length cells < m → existing_from options next n cells h ≡ existing_from options next m cells h
unfolding existing_from
existing_from-enough options next zero m cells h a b = absurd (omega arith)
existing_from-enough options next (suc n) zero cells h a b = absurd (omega arith)
existing_from-enough options next (suc n) (suc m) cells h a b =
    existing_at-same options next next (existing_from options next n) (existing_from options next m)
    (ends_line (first_seen cells)) cells h refl (λ rest k lt. refl)
    (λ rest k lt. existing_from-enough options next n m rest k (omega (arith, lt, a)) (omega (arith, lt, b)))

-- the next container is asked whether it continues, and then the same after its prefix, unless the line ends here
pub line_by_container : (options : ParseOptions) (next : Rule) (cells : List Cell) (h : Here) →
    line_then options next cells h ≡
    existing_at options next (line_then options next) (ends_line (first_seen cells)) cells h
unfolding line_then existing_from
line_by_container options next cells h =
    existing_at-same options next next (existing_from options next (length cells)) (line_then options next)
    (ends_line (first_seen cells)) cells h refl (λ rest k lt. refl)
    (λ rest k lt. existing_from-enough options next (length cells) (suc (length rest)) rest k lt (omega arith))

-- Lines.

line_then-same : (options : ParseOptions) (f g : Rule) (cells : List Cell) (h : Here) → Agree (length cells) f g →
    line_then options f cells h ≡ line_then options g cells h
unfolding line_then
line_then-same options f g cells h agree = existing_from-same options f g (suc (length cells)) cells h agree

-- more lines than cells change nothing
enough : (options : ParseOptions) (n m : ℕ) (cells : List Cell) (h : Here) → length cells < n → length cells < m →
    flow_lines options n cells h ≡ flow_lines options m cells h
unfolding flow_lines
enough options zero m cells h a b = absurd (omega arith)
enough options (suc n) zero cells h a b = absurd (omega arith)
enough options (suc n) (suc m) cells h a b =
    line_then-same options (flow_lines options n) (flow_lines options m) cells h
    (λ rest k lt. enough options n m rest k (omega arith) (omega arith))

-- what flow means: the first line, and then the same after it
pub flow_by_line : (options : ParseOptions) (cells : List Cell) (h : Here) →
    flow_at options cells h ≡ line_then options (flow_at options) cells h
unfolding flow_at flow_lines
flow_by_line options cells h =
    line_then-same options (flow_lines options (length cells)) (flow_at options) cells h
    (λ rest k lt. enough options (length cells) (suc (length rest)) rest k lt (omega arith))
