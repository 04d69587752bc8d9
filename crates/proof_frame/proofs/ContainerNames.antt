-- A table of the containers of the line definition, built or not: what is known of the names of their events, and of
-- what these show. It is the one place of the frame's proofs that goes through them.
use Rattle.std.proofs.Common.{◌≡◌, Bool, true, false, cond, List, [], ◌∷◌, ◌++◌, refl, ap, map, ℕ, zero, suc}
use Rattle.std.specs.Prelude.{None}
use Rattle.md_engine.specs.declared.event.Event.{Event}
use Rattle.md_engine.specs.declared.event.Kind.TheVariants.{Exit}
use Rattle.md_engine.specs.declared.event.Name.{Name}
use Rattle.md_engine.specs.declared.event.Name.TheVariants as n
use Rattle.md_engine.specs.declared.event.Point.{Point}
use Rattle.md_engine.specs.declared.tokenizer.container.name.ContainerKind.{ContainerKind}
use Rattle.md_engine.specs.declared.tokenizer.container.name.ContainerKind.TheVariants as kind
use Rattle.md_engine.specs.ContainerName.{name_of}
use Rattle.md_containers.specs.Listed.{is_item}
use Rattle.md_containers.proofs.UnlistedLemmas.{among}
use Rattle.md_content.specs.Joined.{content_after}
use Rattle.md_outline.specs.Roles.{is_plain}
use Rattle.md_events.specs.Events.Blocks.{is_block}
use Rattle.md_events.specs.Events.Endings.{on_line}
use Rattle.md_events.specs.Events.Grammar.{Expression, following, may_end}
use Rattle.md_events.specs.Events.Inline.{is_line_ending}
use Rattle.md_events.specs.Events.Nested.{enter, exit}
use Rattle.md_events.specs.Events.Prefix.{is_prefix}
use Rattle.md_events.specs.Events.Spelled.{ContainerRole, Reading, Shape, block_around, left, read, role}
use Rattle.md_events.specs.Events.Tiles.{part_kind}
use Rattle.md_meaning.specs.State.{Container, InFootnote, InItem, InQuote, container_block}
use Rattle.md_meaning.specs.Tree.{Blocks}
use Rattle.md_events.proofs.EndingsLemmas.{is_other}
use Rattle.proof_frame.specs.ContainerNames.{IsOf, container_name, is_listed, shape_name, shape_of}
use Rattle.proof_frame.proofs.EventNames.{is_front}
use Rattle.proof_frame.proofs.LeafAllowed.{Moves}
use Rattle.proof_frame.proofs.PartedFacts.{Still}
use Rattle.proof_frame.proofs.PlainFacts.{Untold}

-- Each container.

pub record ContainerFacts (c : Container) : Type 0 where
  -- its name is one of those that are before a line, and not that of a prefix
  pub front : is_front (container_name c) ≡ true
  pub no_prefix : is_prefix (container_name c) ≡ false
  pub begin_stops : (p : Point) (ys : List Event) → content_after (enter (container_name c) p ∷ ys) ≡ false
  -- it is no leaf and no ending
  pub other : is_other (on_line (container_name c)) ≡ true
  pub no_part : part_kind (container_name c) ≡ None
  pub no_ending : is_line_ending (container_name c) ≡ false
  -- it is a block, and an item or none; where it is innermost it ends between blocks
  pub block_role : is_block (role (container_name c)) ≡ true
  pub item_role : is_item (role (container_name c)) ≡ is_listed c
  pub ends : (bytes : List ℕ) (items : List Bool) (p : Point) →
      Moves bytes (among (is_listed c ∷ items)) (among items) Exit (role (container_name c)) p
  -- no text begins or ends with it, and it has a plain name, if an outline shows it
  pub still : Still (role (container_name c))
  pub untold : is_plain (ContainerRole (shape_of c)) ≡ true → Untold (role (container_name c))
  -- each is read as its block, and ends alike
  pub block : (bs : Blocks) → block_around (shape_of c) bs ≡ container_block c bs
  pub read_end : (bytes : List ℕ) (p : Point) (r : Reading) →
      read bytes r (exit (container_name c) p ∷ []) ≡ left r.outer r
  -- the tokenizer ends it by the same name, if it is built
  pub held : (k : ContainerKind) → IsOf k c → name_of k ≡ container_name c

pub container-facts : (c : Container) → ContainerFacts c
container-facts (InQuote alert) = record {
  front = refl;
  no_prefix = refl;
  begin_stops = λ p ys. refl;
  other = refl;
  no_part = refl;
  no_ending = refl;
  block_role = refl;
  item_role = refl;
  ends = λ bytes items p. record { may = refl; following = refl };
  still = tt;
  untold = λ h. (refl, refl);
  block = λ bs. refl;
  read_end = λ bytes p r. refl;
  held = held-is;
}
  where
    held-is : (k : ContainerKind) → IsOf k (InQuote alert) → name_of k ≡ n.BlockQuote
    held-is kind.BlockQuote e = refl
    held-is kind.ListItem e = cc
    held-is kind.GfmFootnoteDefinition e = cc
container-facts (InItem digits marker width starts_blank) = record {
  front = refl;
  no_prefix = refl;
  begin_stops = λ p ys. refl;
  other = refl;
  no_part = refl;
  no_ending = refl;
  block_role = refl;
  item_role = refl;
  ends = λ bytes items p. record { may = refl; following = refl };
  still = tt;
  untold = λ h. (h, refl);
  block = λ bs. refl;
  read_end = λ bytes p r. refl;
  held = held-is width;
}
  where
    held-is : (w : ℕ) (k : ContainerKind) → IsOf k (InItem digits marker w starts_blank) → name_of k ≡ n.ListItem
    held-is zero k e = cc
    held-is (suc more) kind.BlockQuote e = cc
    held-is (suc more) kind.ListItem e = refl
    held-is (suc more) kind.GfmFootnoteDefinition e = cc
container-facts (InFootnote label) = record {
  front = refl;
  no_prefix = refl;
  begin_stops = λ p ys. refl;
  other = refl;
  no_part = refl;
  no_ending = refl;
  block_role = refl;
  item_role = refl;
  ends = λ bytes items p. record { may = refl; following = refl };
  still = tt;
  untold = λ h. (h, refl);
  block = λ bs. refl;
  read_end = λ bytes p r. refl;
  held = held-is;
}
  where
    held-is : (k : ContainerKind) → IsOf k (InFootnote label) → name_of k ≡ n.GfmFootnoteDefinition
    held-is kind.BlockQuote e = cc
    held-is kind.ListItem e = cc
    held-is kind.GfmFootnoteDefinition e = refl

-- lines of content do not continue over its end
pub end-stops : (c : Container) (p : Point) (ys : List Event) →
    content_after (exit (container_name c) p ∷ ys) ≡ false
end-stops c p ys = ap (λ (x : Bool). cond x (content_after ys) false) (container-facts c).no_prefix

-- Names of open containers.

-- the names that are open where these containers are, the innermost first
abbrev pub open_names : List Container → List Name
open_names [] = []
open_names (c ∷ cs) = open_names cs ++ container_name c ∷ []

-- the events of a container show its name by its shape
abbrev pub shape_names : List Shape → List Name
shape_names [] = []
shape_names (s ∷ ss) = shape_names ss ++ shape_name s ∷ []

pub names-shapes : (cs : List Container) → open_names cs ≡ shape_names (map shape_of cs)
names-shapes [] = refl
names-shapes (c ∷ cs) = ap (λ (l : List Name). l ++ container_name c ∷ []) (names-shapes cs)

-- In the grammar of events.

-- what may be here takes what containers add to a line, and is left as it is
abbrev pub TakesPrefixes : Expression → Type 0
TakesPrefixes x = (following n.SpaceOrTab x ≡ x) × (following n.BlockQuotePrefix x ≡ x)

-- a text part of one piece may be, where this is in text parts
abbrev pub TakesData : Expression → Type 0
TakesData text = may_end (following n.Data text) ≡ true
