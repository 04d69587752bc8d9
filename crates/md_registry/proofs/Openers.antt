-- The states of the document before containers that may open, whichever are built, by the order in which these are
-- tried: each has its place in the table, and what is left there is what the container and those after it leave.
use Rattle.std.proofs.Common.{◌≡◌, ◌+◌, ◌*◌, suc, ◌<◌, List, [], ◌∷◌, length, refl, ap, ◌∙◌, subst, arith}
use Rattle.md_engine.specs.declared.configuration.ParseOptions.{ParseOptions}
use Rattle.md_engine.specs.declared.state.Name.{Name as StateName}
use Rattle.md_engine.specs.declared.state.Name.TheVariants as n
use Rattle.md_engine.specs.declared.state.document.State.TheVariants as document
use Rattle.md_engine.specs.declared.tokenizer.container.name.ContainerKind.{ContainerKind}
use Rattle.md_engine.specs.declared.tokenizer.container.name.ContainerKind.TheVariants as kind
use Rattle.md_engine.specs.Meaning.{Cell, Here}
use Rattle.md_engine.specs.Scheme.{Fits, Scheme}
use Rattle.md_engine.specs.World.{World}
use Rattle.md_engine.proofs.Local.{fits}
use Rattle.md_registry.specs.Document.{document_own_transition}
use Rattle.md_registry.specs.Flow.{flow_rank, flow_scheme, flow_tries, new_before_transition}
use Rattle.proof_frame.specs.Rule.{Rule}
use Rattle.md_registry.specs.FlowRule.{containers_behave, openers_of}
use Rattle.md_registry.specs.Registry.{container_rules, opener_front, openers_after, trials}
use Rattle.md_registry.specs.States.{containers_owner, flow_owner, flow_table_scheme}
use Rattle.md_registry.proofs.Termination.{OpenerFits, TrialFits}
use Rattle.md_registry.proofs.Registry.{NextOpener, container-states}

-- A state where a container is tried: whose it is, its rank and tries, what it does, and what is left there.

pub record AtOpener (k : ContainerKind) : Type 1 where
  pub owned : containers_owner (container_rules k).before ≡ flow_scheme
  pub rank : (flow_rank (n.Document (container_rules k).before)).number ≡
      12 + 2 * length trials + 2 * length (openers_after k)
  pub tries : (flow_tries (n.Document (container_rules k).before)).number ≡
      suc (12 + 2 * length trials + 2 * length (openers_after k))
  pub does : (w : World) → document_own_transition (container_rules k).before w ≡ new_before_transition k w
  pub left : (options : ParseOptions) (next : Rule) (cells : List Cell) (h : Here) →
      containers_behave options next (container_rules k).before cells h ≡
      openers_of options next (k ∷ openers_after k) cells h

pub at-opener : (k : ContainerKind) → AtOpener k
at-opener kind.BlockQuote =
    record { owned = refl; rank = refl; tries = refl; does = λ w. refl; left = λ options next cells h. refl }
at-opener _ =
    record { owned = refl; rank = refl; tries = refl; does = λ w. refl; left = λ options next cells h. refl }

-- What is left before a container, and before the next.

pub left-front : (options : ParseOptions) (next : Rule) (ks : List ContainerKind) (cells : List Cell) (h : Here) →
    NextOpener ks → containers_behave options next (opener_front ks) cells h ≡ openers_of options next ks cells h
left-front options next [] cells h is = refl
left-front options next (k ∷ ks) cells h is =
    (at-opener k).left options next cells h
    ∙ ap (λ (js : List ContainerKind). openers_of options next (k ∷ js) cells h) is

-- Its place in the table.

fits-before : (k : ContainerKind) → Fits flow_table_scheme flow_scheme (n.Document (container_rules k).before)
fits-before k =
    let P : Scheme → Type 1 = λ S. Fits flow_table_scheme S (n.Document (container_rules k).before) in
    subst P (at-opener k).owned (fits flow_owner (n.Document (container_rules k).before))

-- one that tries a container before these has more ranks than the first of them has tries, which has more than ranks
pub front-fits : (from : StateName) (ks : List ContainerKind) → Fits flow_table_scheme flow_scheme from → NextOpener
    ks →
    11 + 2 * length trials + 2 * length ks < (flow_rank from).number →
    TrialFits flow_table_scheme from (n.Document (opener_front ks))
front-fits from [] here is lt = record {
  front = here;
  next = fits flow_owner (n.Document document.ContainersAfter);
  falls = omega (arith, lt);
  next_low = omega arith;
  after_low = omega arith;
}
front-fits from (k ∷ ks) here is lt =
    let low = (at-opener k).rank in
    let tries = (at-opener k).tries in
    let less = ap length is in
    record {
      front = here;
      next = fits-before k;
      falls = omega (arith, lt, tries, less);
      next_low = omega (arith, low, tries);
      after_low = omega (arith, tries);
    }

pub opener-fits : (k : ContainerKind) → OpenerFits flow_table_scheme k
opener-fits k =
    let here = (at-opener k).rank in
    front-fits (n.Document (container_rules k).before) (openers_after k) (fits-before k) (container-states k).next
    (omega (arith, here))
