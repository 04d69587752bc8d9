-- A line of text continues the text before it where no container opens on it; then none ends before it.
use Rattle.std.proofs.Common.{◌≡◌, Bool, true, false, List, [], ◌∷◌, refl, ap, ap₂, sym, ◌∙◌}
use Rattle.std.specs.Prelude.{◌&&◌}
use Rattle.md_engine.specs.declared.configuration.ParseOptions.{ParseOptions}
use Rattle.md_engine.specs.declared.tokenizer.held_leaf.HeldLeaf.{HeldLeaf}
use Rattle.md_engine.specs.declared.tokenizer.held_leaf.HeldLeaf.TheVariants as held_leaf
use Rattle.md_meaning.specs.Rest.{Rest}
use Rattle.md_meaning.specs.State.{Container}
use Rattle.proof_frame.specs.Change.{Change, against, change_by, is_none, others_of}
use Rattle.proof_frame.specs.HeldLeaf.{met_by, takes_lazy}
use Rattle.proof_frame.specs.Row.{Row, RowKind, TextRow}
use Rattle.proof_rows.specs.Fronted.{Prefixed, contained, prefixes_after, prefixes_on}
use Rattle.proof_rows.specs.Rows.{is_continued, is_lazy, is_text, line_kind}

-- also where not all containers continue
met-lazy : (all : Bool) (still : HeldLeaf) → takes_lazy still ≡ true → takes_lazy (met_by all still) ≡ true
met-lazy true still e = e
met-lazy false (held_leaf.Text at) e = refl
met-lazy false (held_leaf.LazyText at) e = refl
met-lazy false held_leaf.None e = cc
met-lazy false held_leaf.Code e = cc
met-lazy false (held_leaf.Fence marker size indent) e = cc
met-lazy false (held_leaf.Html kind) e = cc
met-lazy false held_leaf.Table e = cc

changed-text : (still : HeldLeaf) (proceeded others opens : List Container) (kind : RowKind) → takes_lazy still ≡ true →
    kind ≡ TextRow →
    let change = change_by (is_lazy still opens kind) proceeded others opens in
    takes_lazy (against still others opens) ≡ (is_none change.closes && is_none change.opens)
changed-text still proceeded others opens kind lazy text =
    go opens
    ∙ ap (λ (x : Bool).
    let change = change_by x proceeded others opens in is_none change.closes && is_none change.opens)
    (sym (ap₂ (λ (x : Bool) (k : RowKind). x && is_none opens && is_text k) lazy text))
  where
    none : (x : Bool) → false ≡ (x && false)
    none true = refl
    none false = refl

    go : (opens : List Container) →
        let change = change_by (true && is_none opens && true) proceeded others opens in
        takes_lazy (against still others opens) ≡ (is_none change.closes && is_none change.opens)
    go [] = met-lazy (is_none others) still lazy
    go (c ∷ opens) = none (is_none others)

contained-text : (options : ParseOptions) (cs : List Container) (still : HeldLeaf) (r : Rest) →
    takes_lazy still ≡ true →
    let c = contained options cs still r in
    line_kind options c.on c.rest ≡ TextRow →
    takes_lazy c.on ≡ (is_none c.change.closes && is_none c.change.opens)
unfolding contained
contained-text options cs still r lazy text =
    changed-text still on.containers others new.containers kind lazy text
  where
    on : Prefixed
    on = prefixes_on options cs r

    others : List Container
    others = others_of cs on.containers

    new : Prefixed
    new = prefixes_after options still others on

    kind : RowKind
    kind = line_kind options (against still others new.containers) new.rest

-- So it does by its role just where its rows say so.
pub text-proceeds : (options : ParseOptions) (cs : List Container) (still : HeldLeaf) (r : Rest) (row next : Row) →
    let c = contained options cs still r in
    takes_lazy still ≡ true → next.on ≡ c.on → next.change ≡ c.change → next.kind ≡ line_kind options c.on c.rest →
    next.kind ≡ TextRow → row.closed_after ≡ next.change.closes → takes_lazy next.on ≡ is_continued row next
text-proceeds options cs still r row next lazy on change kind text closed =
    ap takes_lazy on ∙ contained-text options cs still r lazy (sym kind ∙ text)
    ∙ sym
    (ap₂ (λ (x y : List Container). is_none x && is_none y)
    (closed ∙ ap (λ (c : Change). c.closes) change) (ap (λ (c : Change). c.opens) change))
