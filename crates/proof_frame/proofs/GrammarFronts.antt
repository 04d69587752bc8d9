-- What is before a line and after it keeps the grammar of events around which nothing is put yet.
use Rattle.std.proofs.Common.{◌≡◌, Bool, true, false, cond, ℕ, List, [], ◌∷◌, ◌++◌, refl, ap, sym, ◌∙◌, append_assoc}
use Rattle.md_engine.specs.declared.event.Event.{Event}
use Rattle.md_engine.specs.declared.event.Name.{Name}
use Rattle.md_engine.specs.declared.event.Point.{Point}
use Rattle.md_events.specs.Events.Grammar.{Expression, after_block, blocks, may_end}
use Rattle.md_events.specs.Events.Nested.{enter, exit}
use Rattle.md_meaning.specs.State.{Container}
use Rattle.md_containers.specs.ItemsAllowed.{IsPart}
use Rattle.md_containers.specs.Unlisted.{unlisted_left}
use Rattle.md_containers.proofs.UnlistedLemmas.{Unlists, unlists-append, unlists-rest, unlists-same}
use Rattle.md_events.proofs.GrammarLemmas.{Leads, leads-append}
use Rattle.proof_frame.specs.ContainerNames.{container_name}
use Rattle.proof_frame.specs.Change.{ends_of}
use Rattle.proof_frame.proofs.FrontFacts.{Begins, Following, LinePrefix, Proceeds}
use Rattle.proof_frame.proofs.ContainerNames.{open_names, TakesData, TakesPrefixes}
use Rattle.proof_frame.proofs.LeafAllowed.{parts-unlisted}
use Rattle.proof_frame.proofs.PrefixNames.{prefixes-roles}

-- Open containers.

-- what is left of the parts around blocks, where these names are open
abbrev pub blocks_after_each : List Name → List Expression
blocks_after_each [] = []
blocks_after_each (name ∷ names) = after_block ∷ blocks_after_each names

-- some names around others
pub blocks_after_each-append : (xs ys : List Name) → blocks_after_each (xs ++ ys) ≡ blocks_after_each xs ++ blocks_after_each ys
blocks_after_each-append [] ys = refl
blocks_after_each-append (name ∷ xs) ys = ap (λ (l : List Expression). after_block ∷ l) (blocks_after_each-append xs ys)

-- with one around them
blocks_after_each-around : (xs : List Name) (name : Name) (outer : List Expression) →
    blocks_after_each (xs ++ name ∷ []) ++ outer ≡ blocks_after_each xs ++ (after_block ∷ outer)
blocks_after_each-around xs name outer =
    ap (λ (l : List Expression). l ++ outer) (blocks_after_each-append xs (name ∷ []))
    ∙ append_assoc (blocks_after_each xs) (after_block ∷ []) outer

-- LinePrefix.

-- before blocks, what is there opens the containers that begin in it
pub front-leads : (text : Expression) (bytes : List ℕ) (opens : List Container) (p q : Point) (front : List Event) →
    TakesData text → LinePrefix bytes opens p q front →
    Unlists text (blocks ∷ []) (blocks ∷ blocks_after_each (open_names opens)) front
front-leads text bytes _ p _ _ takes (Following _) = λ outer. refl
front-leads text bytes opens p r _ takes (Proceeds _ _ q _ es fs is more) =
    unlists-append text (blocks ∷ []) (blocks ∷ []) (blocks ∷ blocks_after_each (open_names opens)) es fs
    (unlists-same text (blocks ∷ []) (blocks ∷ []) es (parts-unlisted es (prefixes-roles IsPart es tt tt tt is.names))
    (is.stays text blocks (refl, refl))) (front-leads text bytes opens q r fs takes more)
front-leads text bytes _ p r _ takes (Begins c opens _ q _ es fs is more) =
    let further : Unlists text (blocks ∷ after_block ∷ [])
    (blocks ∷ blocks_after_each (open_names opens ++ container_name c ∷ [])) fs =
    λ outer. front-leads text bytes opens q r fs takes more (after_block ∷ outer)
    ∙ ap (λ (l : List Expression). blocks ∷ l) (sym (blocks_after_each-around (open_names opens) (container_name c) outer)) in
    unlists-append text (blocks ∷ []) (blocks ∷ after_block ∷ [])
    (blocks ∷ blocks_after_each (open_names opens ++ container_name c ∷ [])) (enter (container_name c) p ∷ es) fs
    (is.leads text takes) further

-- before a further line of a leaf, where prefixes may be
pub front-stays : (text x : Expression) (bytes : List ℕ) (opens : List Container) (p q : Point) (front : List Event) →
    TakesPrefixes x → LinePrefix bytes opens p q front → opens ≡ [] →
    Leads text (x ∷ []) (x ∷ []) front
front-stays text x bytes _ p _ _ takes (Following _) none = λ outer. refl
front-stays text x bytes opens p r _ takes (Proceeds _ _ q _ es fs is more) none =
    leads-append text (x ∷ []) (x ∷ []) (x ∷ []) es fs (is.stays text x takes)
    (front-stays text x bytes opens q r fs takes more none)
front-stays text x bytes _ p r _ takes (Begins c opens _ q _ es fs is more) none = cc

-- After a line.

-- what is left of blocks after a block, and after a blank line
abbrev pub blocks_after : Bool → Expression
blocks_after true = after_block
blocks_after false = blocks

-- a container may end there
pub following-ends : (block : Bool) → may_end (blocks_after block) ≡ true
following-ends true = refl
following-ends false = refl

-- containers end
pub ends-lead : (text : Expression) (cs : List Container) (p : Point) (block : Bool) →
    (after : Bool) ×
    Unlists text (blocks_after block ∷ blocks_after_each (open_names cs)) (blocks_after after ∷ []) (ends_of cs p)
ends-lead text [] p block = (block, λ outer. refl)
ends-lead text (c ∷ cs) p block =
    let inner : (after : Bool) ×
    Unlists text (blocks_after block ∷ blocks_after_each (open_names cs)) (blocks_after after ∷ [])
    (ends_of cs p) = ends-lead text cs p block in
    let name : Name = container_name c in (
      true,
      λ outer.
          ap (λ (l : List Expression). unlisted_left text (blocks_after block ∷ l) (ends_of cs p ++ exit name p ∷ []))
          (blocks_after_each-around (open_names cs) name outer)
          ∙ unlists-rest text (blocks_after block ∷ blocks_after_each (open_names cs)) (blocks_after inner.0 ∷ [])
          (after_block ∷ outer) (ends_of cs p) (exit name p ∷ []) inner.1
          ∙ ap (λ (b : Bool). cond b (after_block ∷ outer) []) (following-ends inner.0),
    )
