-- The states of flow before leaves, whichever are built, by the order in which these are tried: each has its place in
-- the table, and what is left there is what the leaf and those after it leave.
use Rattle.std.proofs.Common.{◌≡◌, ◌+◌, ◌*◌, suc, ◌<◌, List, [], ◌∷◌, length, refl, ap, ◌∙◌, subst, arith}
use Rattle.md_engine.specs.declared.configuration.ParseOptions.{ParseOptions}
use Rattle.md_engine.specs.declared.state.Name.{Name as StateName}
use Rattle.md_engine.specs.declared.state.Name.TheVariants as n
use Rattle.md_engine.specs.declared.state.flow.State.TheVariants as flow
use Rattle.md_engine.specs.Meaning.{Cell, Here}
use Rattle.md_engine.specs.Scheme.{Fits, Scheme}
use Rattle.md_engine.proofs.Local.{fits}
use Rattle.md_registry.specs.Flow.{flow_rank, flow_scheme, flow_tries}
use Rattle.proof_frame.specs.Rule.{Rule}
use Rattle.md_registry.specs.FlowRule.{leaves_behave, leaves_of}
use Rattle.proof_frame.specs.LeafName.{CodeFurther, FenceFurther, HtmlFurther, LeafName}
use Rattle.md_registry.specs.Registry.{following, front_of, leaf}
use Rattle.md_registry.specs.States.{flow_owner, flow_table_scheme, leaves_owner}
use Rattle.md_registry.proofs.Termination.{InsideFits, LeafFits, TrialFits}
use Rattle.md_registry.proofs.Registry.{HasTrial, NextIs, leaf-next, leaf-states}

-- A state where a leaf is tried: whose it is, its rank and tries, and what is left there.

pub record AtTrial (l : LeafName) : Type 1 where
  pub owned : leaves_owner (leaf l).before ≡ flow_scheme
  pub rank : (flow_rank (n.Flow (leaf l).before)).number ≡ 6 + 2 * length (following l)
  pub tries : (flow_tries (n.Flow (leaf l).before)).number ≡ suc (6 + 2 * length (following l))
  pub left : (options : ParseOptions) (next : Rule) (cells : List Cell) (h : Here) →
      leaves_behave options next (leaf l).before cells h ≡ leaves_of options next (l ∷ following l) cells h

pub at-trial : (l : LeafName) → HasTrial l → AtTrial l
at-trial CodeFurther is = absurd (cc)
at-trial FenceFurther is = absurd (cc)
at-trial HtmlFurther is = absurd (cc)
at-trial _ is = record { owned = refl; rank = refl; tries = refl; left = λ options next cells h. refl }

-- What is left before a leaf, and before the next.

pub left-list : (options : ParseOptions) (next : Rule) (ls : List LeafName) (cells : List Cell) (h : Here) → NextIs ls →
    leaves_behave options next (front_of ls) cells h ≡ leaves_of options next ls cells h
left-list options next [] cells h is = refl
left-list options next (m ∷ ms) cells h is =
    (at-trial m is.0).left options next cells h ∙ ap (λ (ks : List LeafName). leaves_of options next (m ∷ ks) cells h)
    is.1

-- Its place in the table.

fits-before : (l : LeafName) → HasTrial l → Fits flow_table_scheme flow_scheme (n.Flow (leaf l).before)
fits-before l is =
    let P : Scheme → Type 1 = λ S. Fits flow_table_scheme S (n.Flow (leaf l).before) in
    subst P (at-trial l is).owned (fits flow_owner (n.Flow (leaf l).before))

-- one that tries a leaf before these has more ranks than the first of them has tries, which has more than ranks
pub front-fits : (from : StateName) (ls : List LeafName) → Fits flow_table_scheme flow_scheme from → NextIs ls →
    5 + 2 * length ls < (flow_rank from).number → TrialFits flow_table_scheme from (n.Flow (front_of ls))
front-fits from [] here is lt = record {
  front = here;
  next = fits flow_owner (n.Flow flow.BeforeContent);
  falls = omega (arith, lt);
  next_low = omega arith;
  after_low = omega arith;
}
front-fits from (m ∷ ms) here is lt =
    let low = (at-trial m is.0).rank in
    let tries = (at-trial m is.0).tries in
    let less = ap length is.1 in
    record {
      front = here;
      next = fits-before m is.0;
      falls = omega (arith, lt, tries, less);
      next_low = omega (arith, low, tries);
      after_low = omega (arith, tries);
    }

pub leaf-fits : (l : LeafName) → HasTrial l → LeafFits flow_table_scheme l
leaf-fits l is =
    let here = (at-trial l is).rank in
    front-fits (n.Flow (leaf l).before) (following l) (fits-before l is) (leaf-next l is) (omega (arith, here))

-- and the first state of one is in the table
pub inside_fits : (l : LeafName) → InsideFits flow_table_scheme (leaf l).start
inside_fits l = record {
  own = flow_owner (leaf l).start;
  starts = fits flow_owner (leaf l).start;
  level = (leaf-states l).level;
  ready = (leaf-states l).ready;
}
