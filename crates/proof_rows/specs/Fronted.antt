-- The containers of a line by its bytes: which continue and open on it, as the line definition says.
use Rattle.md_engine.specs.declared.tokenizer.held_leaf.HeldLeaf.{HeldLeaf}
use Rattle.std.specs.Prelude.{ℕ, zero, suc, ◌-◌, Bool, false, if◌then◌else◌, List, [], ◌∷◌, length, Some, None}
use Rattle.md_engine.specs.declared.configuration.ParseOptions.{ParseOptions}
use Rattle.md_engine.specs.declared.event.Point.{Point}
use Rattle.md_meaning.specs.Containers.{continues, opens}
use Rattle.md_meaning.specs.Rest.{Rest}
use Rattle.md_meaning.specs.State.{Container}
use Rattle.proof_frame.specs.Change.{Change, change_by, interrupts, against, others_of}
use Rattle.proof_rows.specs.Rows.{is_inside, is_lazy, line_kind}

-- containers that have a prefix on a line, and its rest after them
pub record Prefixed : Type 0 where
  pub containers : List Container
  pub rest : Rest

abbrev pub no_prefix : Rest → Prefixed
no_prefix r = record { containers = []; rest = r }

abbrev pub one_more : Container → Prefixed → Prefixed
one_more c f = record f { containers = c ∷ f.containers }

-- each open container is asked whether it continues, from the outermost in, until one does not
abbrev pub prefixes_on : ParseOptions → List Container → Rest → Prefixed
prefixes_on options [] r = no_prefix r
prefixes_on options (c ∷ cs) r = elim (continues options c r) [
  | None ↦ no_prefix r
  | Some t ↦ one_more t.container (prefixes_on options cs t.rest)
]

-- containers open as often as they do, at most so many; the first may interrupt a paragraph
abbrev pub prefixes_new : ParseOptions → Bool → ℕ → Rest → Prefixed
prefixes_new options interrupting zero r = no_prefix r
prefixes_new options interrupting (suc n) r = elim (opens options interrupting r) [
  | None ↦ no_prefix r
  | Some t ↦ one_more t.container (prefixes_new options false n t.rest)
]

-- a line that begins at a point
abbrev pub rest_from : Point → List ℕ → Rest
rest_from p line = record { column = p.column - 1; spaces = 0; bytes = line }

-- what a line does to the containers, the leaf that it meets after them, and its rest
pub record Contained : Type 0 where
  pub change : Change
  pub on : HeldLeaf
  pub rest : Rest

abbrev pub contained_by : List Container → Bool → HeldLeaf → Prefixed → Prefixed → Contained
contained_by cs lazy on proceeded new = record {
  change = change_by lazy proceeded.containers (others_of cs proceeded.containers) new.containers;
  on = on;
  rest = new.rest;
}

abbrev pub contained_of : ParseOptions → List Container → HeldLeaf → Prefixed → Prefixed → Contained
contained_of options cs still proceeded new =
    let on = against still (others_of cs proceeded.containers) new.containers in
    contained_by cs (is_lazy still new.containers (line_kind options on new.rest)) on proceeded new

abbrev pub prefixes_after : ParseOptions → HeldLeaf → List Container → Prefixed → Prefixed
prefixes_after options still others proceeded =
    if is_inside still others then no_prefix proceeded.rest
    else prefixes_new options (interrupts still others) (length proceeded.rest.bytes) proceeded.rest

abbrev pub contained_after : ParseOptions → List Container → HeldLeaf → Prefixed → Contained
contained_after options cs still proceeded =
    contained_of options cs still proceeded (prefixes_after options still (others_of cs proceeded.containers) proceeded)

-- where these containers and this leaf are open before it
unfoldable pub contained : ParseOptions → List Container → HeldLeaf → Rest → Contained
contained options cs still r = contained_after options cs still (prefixes_on options cs r)
