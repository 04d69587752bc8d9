-- How far the definitions at the front of an open text have come, from line to line: what a line meets shows what the
-- line before it has left.
use Rattle.std.proofs.Common.{◌≡◌, Bool, true, false, cond, ◌&&◌, List, [], ◌∷◌, refl, ap, sym, ◌∙◌}
use Rattle.std.specs.Prelude.{not}
use Rattle.std.proofs.lemmas.Bool.{and_parts}
use Rattle.md_engine.specs.declared.configuration.ParseOptions.{ParseOptions}
use Rattle.md_engine.specs.declared.tokenizer.held_leaf.HeldLeaf.{HeldLeaf}
use Rattle.md_engine.specs.declared.tokenizer.held_leaf.HeldLeaf.TheVariants as held_leaf
use Rattle.md_engine.specs.declared.tokenizer.held_leaf.OpenText.{OpenText}
use Rattle.md_engine.specs.declared.tokenizer.held_leaf.Progress.TheVariants.{Fresh}
use Rattle.md_engine.specs.Progress.{is_whole}
use Rattle.md_meaning.specs.Rest.{Rest, has_small_indent, trim_start}
use Rattle.md_meaning.specs.State.{Container}
use Rattle.md_leaves.specs.HeadingSetext.{may_turn}
use Rattle.md_leaves.specs.HeadingSetextRule.{is_underline}
use Rattle.md_link_definitions.specs.Progress.{progress_of}
use Rattle.proof_frame.specs.Change.{change_by, is_none, against, others_of}
use Rattle.proof_rows.specs.Fronted.{Prefixed, contained, prefixes_after, prefixes_on}
use Rattle.proof_frame.specs.HeldLeaf.{lazy_of, may_continue, met_by, takes_lazy}
use Rattle.proof_leaf_laws.specs.Leaf.HeadingSetext.{setext_leaf}
use Rattle.proof_frame.specs.Row.{RowKind, TextRow}
use Rattle.proof_rows.specs.Rows.{is_lazy, line_kind}
use Rattle.proof_rows.proofs.ContainedLemmas.{change-opens}

-- no definitions have begun,
abbrev pub IsFresh : HeldLeaf → Type 0
IsFresh on = progress_of on ≡ Fresh

-- and no line may continue what is open
abbrev pub IsShut : HeldLeaf → Type 0
IsShut still = (may_continue still ≡ false) × IsFresh still

-- As a lazy line meets it, it has come as far.
lazy-progress : (still : HeldLeaf) → progress_of (lazy_of still) ≡ progress_of still
lazy-progress held_leaf.None = refl
lazy-progress _ = refl

by-progress : (all : Bool) (still : HeldLeaf) → progress_of (met_by all still) ≡ progress_of still
by-progress true still = refl
by-progress false still = lazy-progress still

-- so it is where no container opens, and where one does none is open
met-progress : (still : HeldLeaf) (others opens : List Container) →
    progress_of (against still others opens) ≡ cond (is_none opens) (progress_of still) Fresh
met-progress still others [] = by-progress (is_none others) still
met-progress still others (c ∷ opens) = refl

-- What takes no lazy line is no text.
pub unlazy-fresh : (still : HeldLeaf) → takes_lazy still ≡ false → IsFresh still
unlazy-fresh held_leaf.None e = refl
unlazy-fresh _ e = cc

-- of a line, by what opens on it
pub contained-progress : (options : ParseOptions) (cs : List Container) (still : HeldLeaf) (r : Rest) →
    progress_of (contained options cs still r).on ≡
    cond (is_none (contained options cs still r).change.opens) (progress_of still) Fresh
unfolding contained
contained-progress options cs still r =
    met-progress still others new.containers
    ∙ ap (λ (opens : List Container). cond (is_none opens) (progress_of still) Fresh)
    (sym (change-opens (is_lazy still new.containers kind) on.containers others new.containers))
  where
    on : Prefixed
    on = prefixes_on options cs r

    others : List Container
    others = others_of cs on.containers

    new : Prefixed
    new = prefixes_after options still others on

    kind : RowKind
    kind = line_kind options (against still others new.containers) new.rest

-- Where containers end before a line of text, no text is open before it that it continues.
lazy-closes : (still : HeldLeaf) (proceeded others opens : List Container) (kind : RowKind) → kind ≡ TextRow →
    is_none (change_by (is_lazy still opens kind) proceeded others opens).closes ≡ false →
    takes_lazy still && is_none opens ≡ false
lazy-closes still proceeded others opens kind text some =
    go (takes_lazy still && is_none opens)
    (ap (λ (k : RowKind). is_none (change_by (is_lazy still opens k) proceeded others opens).closes) (sym text) ∙ some)
  where
    go : (x : Bool) → is_none (change_by (x && true) proceeded others opens).closes ≡ false → x ≡ false
    go false e = refl
    go true e = cc

pub contained-closed : (options : ParseOptions) (cs : List Container) (still : HeldLeaf) (r : Rest) →
    line_kind options (contained options cs still r).on (contained options cs still r).rest ≡ TextRow →
    is_none (contained options cs still r).change.closes ≡ false → IsFresh (contained options cs still r).on
unfolding contained
contained-closed options cs still r text some =
    met-progress still others new.containers
    ∙ go new.containers (lazy-closes still on.containers others new.containers kind text some)
  where
    on : Prefixed
    on = prefixes_on options cs r

    others : List Container
    others = others_of cs on.containers

    new : Prefixed
    new = prefixes_after options still others on

    kind : RowKind
    kind = line_kind options (against still others new.containers) new.rest

    unlazy : (x : Bool) → (x && true) ≡ false → x ≡ false
    unlazy true e = e
    unlazy false e = refl

    go : (opens : List Container) → takes_lazy still && is_none opens ≡ false →
        cond (is_none opens) (progress_of still) Fresh ≡ Fresh
    go [] e = unlazy-fresh still (unlazy (takes_lazy still) e)
    go (c ∷ opens) e = refl

-- Where an underline turns a text, definitions leave something of it.
pub turn-left : (options : ParseOptions) (at : OpenText) → may_turn options (held_leaf.Text at) ≡ true →
    options.constructs.definition ≡ true → is_whole at.progress ≡ false
turn-left options at may on = go options.constructs.definition (is_whole at.progress) on may
  where
    go : (x y : Bool) → x ≡ true → not (x && y) ≡ true → y ≡ false
    go true false on may = refl
    go _ _ on may = cc

pub setext-may : (options : ParseOptions) (on : HeldLeaf) (r : Rest) → setext_leaf.starts options on r ≡ true →
    may_turn options on ≡ true
setext-may options on r starts =
    let first = (and_parts (may_turn options on && options.constructs.heading_setext && has_small_indent options r)
    (is_underline (trim_start r.bytes)) starts).0 in
    let second =
    (and_parts (may_turn options on && options.constructs.heading_setext) (has_small_indent options r) first).0 in
    (and_parts (may_turn options on) options.constructs.heading_setext second).0
