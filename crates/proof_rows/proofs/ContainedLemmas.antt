-- The containers of a line by its bytes: those that continue are those that were open.
use Rattle.md_engine.specs.declared.tokenizer.held_leaf.HeldLeaf.TheVariants as held_leaf
use Rattle.md_engine.specs.declared.tokenizer.held_leaf.HeldLeaf.{HeldLeaf}
use Rattle.std.proofs.Common.{◌≡◌, ◌+◌, Bool, true, false, ◌&&◌, List, [], ◌∷◌, ◌++◌, length, map, refl, ap, sym}
use Rattle.proof_frame.specs.HeldLeaf.{has_lines, may_continue, met_by, takes_lazy}
use Rattle.std.proofs.Common.{◌∙◌, append-nil}
use Rattle.std.specs.Prelude.{Option, Some, None}
use Rattle.std.proofs.lemmas.List.{length-append, length-map}
use Rattle.md_engine.specs.declared.configuration.ParseOptions.{ParseOptions}
use Rattle.md_meaning.specs.Containers.{Taken, continues, opens}
use Rattle.md_meaning.specs.Rest.{Rest}
use Rattle.md_meaning.specs.State.{Container}
use Rattle.proof_frame.specs.Change.{change_by, is_none, against, others_of}
use Rattle.proof_frame.specs.ContainerNames.{container_kind, shape_of}
use Rattle.proof_rows.specs.Fronted.{Prefixed, contained, no_prefix, one_more, prefixes_after, prefixes_on}
use Rattle.proof_frame.specs.Row.{RowKind}
use Rattle.proof_rows.specs.Rows.{is_lazy, is_text, line_kind}
use Rattle.proof_container_laws.proofs.Continued.{continues-kind, continues-shape}

-- What a container keeps while it is open: what its events show of it, and its kind.

-- those that continued, and the others after them
on-same : {A : Type 0} (f : Container → A) (options : ParseOptions) →
    ((c : Container) (r : Rest) (t : Taken) → continues options c r ≡ Some t → f t.container ≡ f c) →
    (cs : List Container) (r : Rest) →
    map f ((prefixes_on options cs r).containers ++ others_of cs (prefixes_on options cs r).containers) ≡ map f cs
on-same f options keeps [] r = refl
on-same {A = A} f options keeps (c ∷ cs) r = go (on-same f options keeps cs) (continues options c r) (keeps c r)
  where
    by : Option Taken → Prefixed
    by o = elim o [ None ↦ no_prefix r | Some t ↦ one_more t.container (prefixes_on options cs t.rest) ]

    go : ((s : Rest) →
        map f ((prefixes_on options cs s).containers ++ others_of cs (prefixes_on options cs s).containers) ≡
        map f cs) →
        (o : Option Taken) → ((t : Taken) → o ≡ Some t → f t.container ≡ f c) →
        map f ((by o).containers ++ others_of (c ∷ cs) (by o).containers) ≡ map f (c ∷ cs)
    go below None same = refl
    go below (Some t) same =
        ap
        (λ (x : A).
        x
        ∷ map f
        ((prefixes_on options cs t.rest).containers ++ others_of cs (prefixes_on options cs t.rest).containers))
        (same t refl)
        ∙ ap (λ (xs : List A). f c ∷ xs) (below t.rest)

-- What stays and what ends are the containers that were open.
contained-same : {A : Type 0} (f : Container → A) (options : ParseOptions) →
    ((c : Container) (r : Rest) (t : Taken) → continues options c r ≡ Some t → f t.container ≡ f c) →
    (cs : List Container) (still : HeldLeaf) (r : Rest) →
    map f ((contained options cs still r).change.stays ++ (contained options cs still r).change.closes) ≡ map f cs
unfolding contained
contained-same f options keeps cs still r =
    go (is_lazy still new.containers (line_kind options
    (against still (others_of cs on.containers) new.containers) new.rest))
  where
    on : Prefixed
    on = prefixes_on options cs r

    new : Prefixed
    new = prefixes_after options still (others_of cs on.containers) on

    go : (x : Bool) →
        map f
        ((change_by x on.containers (others_of cs on.containers) new.containers).stays
        ++ (change_by x on.containers (others_of cs on.containers) new.containers).closes) ≡
        map f cs
    go true = ap (map f) (append-nil (on.containers ++ others_of cs on.containers)) ∙ on-same f options keeps cs r
    go false = on-same f options keeps cs r

pub contained-shapes : (options : ParseOptions) (cs : List Container) (still : HeldLeaf) (r : Rest) →
    map shape_of ((contained options cs still r).change.stays ++ (contained options cs still r).change.closes) ≡
    map shape_of cs
contained-shapes options = contained-same shape_of options (continues-shape options)

pub contained-kinds : (options : ParseOptions) (cs : List Container) (still : HeldLeaf) (r : Rest) →
    map container_kind ((contained options cs still r).change.stays ++ (contained options cs still r).change.closes) ≡
    map container_kind cs
contained-kinds options = contained-same container_kind options (continues-kind options)

-- so many stay, and so many end
pub contained-size : (options : ParseOptions) (cs : List Container) (still : HeldLeaf) (r : Rest) →
    length (contained options cs still r).change.stays + length (contained options cs still r).change.closes ≡ length cs
contained-size options cs still r =
    let c = (contained options cs still r).change in
    sym (length-append c.stays c.closes) ∙ sym (length-map (c.stays ++ c.closes) shape_of)
    ∙ ap length (contained-shapes options cs still r) ∙ length-map cs shape_of

-- What opens.

pub none-nil : (cs : List Container) → is_none cs ≡ true → cs ≡ []
none-nil [] e = refl
none-nil (c ∷ cs) e = cc

-- what opens does not hang on what continued
pub change-opens : (lazy : Bool) (proceeded others opens : List Container) →
    (change_by lazy proceeded others opens).opens ≡ opens
change-opens true proceeded others opens = refl
change-opens false proceeded others opens = refl

-- a line on which a container opens continues no paragraph
pub lazy-some : (still : HeldLeaf) (c : Container) (cs : List Container) (kind : RowKind) →
    is_lazy still (c ∷ cs) kind ≡ false
lazy-some still c cs kind = go (takes_lazy still)
  where
    go : (x : Bool) → (x && false && is_text kind) ≡ false
    go true = refl
    go false = refl

-- on a line that continues the open paragraph nothing opens
pub lazy-opens : (still : HeldLeaf) (opens : List Container) (kind : RowKind) → is_lazy still opens kind ≡ true →
    opens ≡ []
lazy-opens still [] kind e = refl
lazy-opens still (c ∷ cs) kind e = let some = lazy-some still c cs kind in cc

-- A leaf on which a line that meets it may go.

-- one of several lines takes no lazy line
pub lines-unlazy : (still : HeldLeaf) → has_lines still ≡ true → takes_lazy still ≡ false
lines-unlazy held_leaf.Code lines = refl
lines-unlazy _ lines = cc

-- it may be continued
pub lines-open : (still : HeldLeaf) → has_lines still ≡ true → may_continue still ≡ true
lines-open held_leaf.Code lines = refl
lines-open _ lines = cc

-- none such is against where its containers did not continue
pub ended-open : (still : HeldLeaf) → may_continue (met_by false still) ≡ false
ended-open held_leaf.None = refl
ended-open _ = refl

-- no container opens on that line, and none ends before it
record MeetsOpen (still : HeldLeaf) (others opens : List Container) : Type 0 where
  opened : opens ≡ []
  ended : others ≡ []
  is : against still others opens ≡ still

met-open : (still : HeldLeaf) (others opens : List Container) → may_continue (against still others opens) ≡ true →
    MeetsOpen still others opens
met-open still others (c ∷ opens) h = cc
met-open still (c ∷ others) [] h = let none = ended-open still in cc
met-open still [] [] h = record { opened = refl; ended = refl; is = refl }

-- where all continued, none ends
none-ends : (lazy : Bool) (proceeded others opens : List Container) → others ≡ [] →
    (change_by lazy proceeded others opens).closes ≡ []
none-ends true proceeded others opens none = refl
none-ends false proceeded others opens none = none

pub contained-met : (options : ParseOptions) (cs : List Container) (still : HeldLeaf) (r : Rest) →
    may_continue (contained options cs still r).on ≡ true →
    ((contained options cs still r).change.opens ≡ []) × ((contained options cs still r).change.closes ≡ [])
unfolding contained
contained-met options cs still r h =
    let is : MeetsOpen still others new.containers = met-open still others new.containers h in (
      change-opens (is_lazy still new.containers kind) on.containers others new.containers ∙ is.opened,
      none-ends (is_lazy still new.containers kind) on.containers others new.containers is.ended,
    )
  where
    on : Prefixed
    on = prefixes_on options cs r

    others : List Container
    others = others_of cs on.containers

    new : Prefixed
    new = prefixes_after options still others on

    kind : RowKind
    kind = line_kind options (against still others new.containers) new.rest

-- it is the leaf that was open
pub contained-still : (options : ParseOptions) (cs : List Container) (still : HeldLeaf) (r : Rest) →
    may_continue (contained options cs still r).on ≡ true → (contained options cs still r).on ≡ still
unfolding contained
contained-still options cs still r h =
    let on : Prefixed = prefixes_on options cs r in
    let others : List Container = others_of cs on.containers in
    let new : Prefixed = prefixes_after options still others on in (met-open still others new.containers h).is
