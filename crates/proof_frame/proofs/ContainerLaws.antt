-- The laws of a container: what the frame asks of each (`ContainerRules`).
use Rattle.std.proofs.Common.{◌≡◌, ℕ, ◌^◌, ◌<◌, ◌≤◌, Bool, true, false, cond, List, [], ◌++◌, length}
use Rattle.std.specs.Prelude.{None, Some}
use Rattle.md_engine.specs.declared.configuration.ParseOptions.{ParseOptions}
use Rattle.md_engine.specs.declared.event.Point.{Point}
use Rattle.md_engine.specs.declared.tokenizer.container.Container.{Container as Held}
use Rattle.md_engine.specs.declared.tokenizer.container.name.ContainerKind.{ContainerKind}
use Rattle.md_engine.specs.declared.tokenizer.Line.{Line}
use Rattle.md_engine.specs.Meaning.{Cell, Here, Refuses}
use Rattle.md_engine.specs.ContainerName.{kind_continues_over}
use Rattle.md_engine.specs.World.{container_of}
use Rattle.md_containers.specs.Interrupts.{interrupts}
use Rattle.md_containers.proofs.Shorter.{Shortens}
use Rattle.md_events.specs.Look.{first_seen, seen_after}
use Rattle.md_events.specs.Spaces.{IsRest, ends_line}
use Rattle.md_meaning.specs.Containers.{Taken, continues}
use Rattle.md_meaning.specs.Preamble.{rest_at}
use Rattle.md_meaning.specs.Rest.{Rest}
use Rattle.md_meaning.specs.State.{Container, container_block}
use Rattle.md_meaning.specs.Tree.{Blocks}
use Rattle.md_outline.specs.HeadingDepths.{are_shallow, is_shallow}
use Rattle.md_events.proofs.FeedLines.{Stops}
use Rattle.md_events.proofs.RestCells.{RestAt, past_rest, rest_cells}
use Rattle.md_meaning.proofs.TextsLemmas.{NoEnding}
use Rattle.proof_frame.specs.ContainerRules.{ContainerRules}
use Rattle.proof_frame.specs.Passed.{Passed, passed_by, passed_over}
use Rattle.proof_frame.specs.ContainerNames.{IsOf}
use Rattle.proof_frame.proofs.PassedFacts.{Agree, HasFurther, HasOpening}
use Rattle.proof_frame.proofs.PrefixNames.{AreFront}

-- one that continues or opens is of its kind, takes a cell at least where the line does not end here, and adds events
-- with names of prefixes and of containers
pub record IsPassed (k : ContainerKind) (cells : List Cell) (t : Passed) : Type 0 where
  pub one : IsOf k t.container
  pub kind : t.held.kind ≡ k
  pub shorter : ends_line (first_seen cells) ≡ false → length t.cells < length cells
  pub within : length t.cells ≤ length cells
  pub front : AreFront t.events

-- what holds of the rest of a line and its cells, after which others are: of any rest at any point
abbrev pub ByRest : ((line : Line) (text past : List ℕ) (r : Rest) (stop : List Cell) (p : Point) → Type 0) → Type 0
ByRest P = (line : Line) (text past : List ℕ) (r : Rest) (stop : List Cell) (p : Point) →
    RestAt text past r p → NoEnding r.bytes → Stops stop → length (rest_cells line r p ++ stop) < 2 ^ 63 →
    P line text past r stop p

pub record ContainerLaws (k : ContainerKind) (rules : ContainerRules) : Type 1 where
  -- What is left at its states is what it takes by the cells of a line, and is shorter: where it is the one that is
  -- tried, or asked.
  pub begins_is : (options : ParseOptions) (interrupting : Bool) (cells : List Cell) (h : Here) → IsRest h.scratch →
      h.flags.asked ≡ container_of k → h.flags.asked_column ≡ h.point.column → interrupting ≡ interrupts h.flags →
      rules.begins options cells h ≡ passed_by (rules.opens options interrupting cells h.point) h
  pub continues_is : (options : ParseOptions) (held : Held) (c : Container) (cells : List Cell) (h : Here) →
      IsRest h.scratch → h.flags.asked ≡ held → h.flags.asked_column ≡ h.point.column → IsOf k c →
      rules.holds held c →
      rules.continues options cells h ≡ passed_by (rules.proceeds options c cells h.point) h
  -- Where what is first after whitespace may not begin it, or not its prefix on a further line, it is refused, and all
  -- is left as it was.
  pub begins_looked : (options : ParseOptions) (cells : List Cell) (h : Here) (b : ℕ) → IsRest h.scratch →
      seen_after cells ≡ Some b → rules.may_open b ≡ false →
      rules.begins options cells h ≡ Refuses h.scratch h.flags
  pub continues_looked : (options : ParseOptions) (cells : List Cell) (h : Here) (b : ℕ) → IsRest h.scratch →
      seen_after cells ≡ Some b → rules.may_continue b ≡ false →
      rules.continues options cells h ≡ Refuses h.scratch h.flags
  pub begins_shorter : (options : ParseOptions) (cells : List Cell) (h : Here) →
      Shortens (length cells) (rules.begins options cells h)
  pub continues_shorter : (options : ParseOptions) (cells : List Cell) (h : Here) →
      ends_line (first_seen cells) ≡ false → Shortens (length cells) (rules.continues options cells h)
  pub opened : (options : ParseOptions) (interrupting : Bool) (cells : List Cell) (p : Point) (t : Passed) →
      rules.opens options interrupting cells p ≡ Some t → IsPassed k cells t
  pub proceeded : (options : ParseOptions) (c : Container) (cells : List Cell) (p : Point) (t : Passed) → IsOf k c →
      rules.proceeds options c cells p ≡ Some t → IsPassed k cells t
  -- The tokenizer holds what it opens as, and continues to.
  pub held_new : (options : ParseOptions) (interrupting : Bool) (cells : List Cell) (p : Point) (t : Passed) →
      rules.opens options interrupting cells p ≡ Some t → rules.holds t.held t.container
  pub held_on : (options : ParseOptions) (held : Held) (c : Container) (cells : List Cell) (p : Point) (t : Passed) →
      rules.holds held c → rules.proceeds options c cells p ≡ Some t → rules.holds t.held t.container
  -- It opens and continues where the line definition says, and leaves what it says.
  pub opens_agrees : (options : ParseOptions) (interrupting : Bool) → ByRest (λ line text past r stop p.
      let cells = rest_cells line r p ++ stop in
      Agree (HasOpening line text past p (past_rest r p) stop cells) (rules.opens options interrupting cells p)
      (rules.found options interrupting r))
  pub proceeds_agrees : (options : ParseOptions) (c : Container) → IsOf k c → ByRest (λ line text past r stop p.
      let cells = rest_cells line r p ++ stop in
      Agree (HasFurther line text past p (past_rest r p) stop cells) (rules.proceeds options c cells p)
      (continues options c r))
  -- Where the line ends none opens, and an open one continues by what is held of it, and takes nothing. So it does by
  -- the line definition, on an empty line; each of its kind may be held.
  pub opens_not : (options : ParseOptions) (interrupting : Bool) (cells : List Cell) (p : Point) →
      ends_line (first_seen cells) ≡ true → rules.opens options interrupting cells p ≡ None
  pub continues_over : (options : ParseOptions) (held : Held) (c : Container) (cells : List Cell)
      (p : Point) → IsOf k c →
      rules.holds held c → ends_line (first_seen cells) ≡ true →
      rules.proceeds options c cells p ≡ cond (rules.over_empty held) (Some (passed_over held c cells p)) None
  pub over_empty : (options : ParseOptions) (held : Held) (c : Container) (column : ℕ) → IsOf k c →
      rules.holds held c →
      continues options c (rest_at column []) ≡
      cond (rules.over_empty held) (Some (record { container = c; rest = rest_at column [] })) None
  -- the kind of what is held shows that
  pub over_kind : (held : Held) → kind_continues_over k held.starts_blank ≡ rules.over_empty held
  pub may_hold : (c : Container) → IsOf k c → (held : Held) × rules.holds held c
  -- By the line definition what opens is of its kind; and an outline can show its block, if it can those in it.
  pub found_one : (options : ParseOptions) (interrupting : Bool) (r : Rest) (t : Taken) →
      rules.found options interrupting r ≡ Some t → IsOf k t.container
  pub shallow : (c : Container) (bs : Blocks) → IsOf k c → are_shallow bs ≡ true →
      is_shallow (container_block c bs) ≡ true
