-- What is asked of the events that are left stays along the walk.
use Rattle.std.proofs.Common.{◌≡◌, inl, inr, ℕ, zero, suc, Bool, true, false, cond, not, ◌&&◌, ◌||◌}
use Rattle.std.proofs.Common.{List, [], ◌∷◌, drop, refl, ap, sym, ◌∙◌, subst}
use Rattle.std.proofs.lemmas.Bool.{and_parts}
use Rattle.md_engine.specs.declared.event.Event.{Event}
use Rattle.md_engine.specs.declared.event.Kind.{Kind}
use Rattle.md_engine.specs.declared.event.Kind.TheVariants.{Enter, Exit}
use Rattle.md_engine.specs.declared.event.Name.{Name}
use Rattle.md_engine.specs.declared.event.Name.TheVariants as n
use Rattle.md_leaves.specs.HeadingText.{begins, ends, is_heading}
use Rattle.md_containers.specs.Listed.{is_item}
use Rattle.md_leaves.specs.Turned.{is_paragraph, passes as is_unturned}
use Rattle.md_events.specs.Events.Inline.{is_line_ending}
use Rattle.md_events.specs.Events.Nested.{is_enter, is_exit}
use Rattle.md_events.specs.Events.Spelled.{role}
use Rattle.md_tables.specs.Heads.{is_table}
use Rattle.md_tables.specs.Tabled.{begins_table, bound_of}
use Rattle.md_order.specs.declared.wanted.Wanted.{Wanted}
use Rattle.md_order.specs.Alone.{HoldNoBlock, InEnding, InHeading, InParagraph, InTable, InUnderline, MayBeHere}
use Rattle.md_order.specs.Alone.{Nothing, Open, closed_by, closes, is_one, is_set, open_following, opened_by}
use Rattle.md_order.specs.Left.{MayBeLeft, MayStay}
use Rattle.md_order.proofs.Names.{bare-unturned, tableless, unset-bare, unset-item}

-- one event further
stay-next : (w : Wanted) (e : Event) (es : List Event) → MayStay w (e ∷ es) → MayStay w es
stay-next w e es h = go h.1
  where
    go : MayBeLeft w h.0 (e ∷ es) → MayStay w es
    go (inl one) = (Nothing, inl one)
    go (inr hold) = (open_following h.0 e, inr hold.1)

pub stay-drop : (w : Wanted) (es : List Event) → MayStay w es → (n : ℕ) → MayStay w (drop n es)
stay-drop w es h zero = h
stay-drop w [] h (suc n) = h
stay-drop w (e ∷ es) h (suc n) = stay-drop w es (stay-next w e es h) n

-- Where a block begins that holds no others, nothing was leaf, or one resolver is alone.

-- what is open ends with no begin
no-close : (leaf : Open) (e : Event) → is_enter e.kind ≡ true → closes leaf e ≡ false
no-close leaf e h = go e.kind h
  where
    go : (kind : Kind) → is_enter kind ≡ true → (is_exit kind && closed_by leaf e.name) ≡ false
    go Enter h = refl
    go Exit h = absurd (let no : false ≡ true = h in cc)

pub stay-opens : (w : Wanted) (e : Event) (es : List Event) → MayStay w (e ∷ es) → is_enter e.kind ≡ true →
    is_set e.name ≡ true → MayBeLeft w (opened_by e.name) es
stay-opens w e es h begins here = go h.0 h.1
  where
    never : (leaf : Open) → (closes leaf e ≡ false → is_set e.name ≡ false) → MayBeLeft w (opened_by e.name) es
    never leaf valid = absurd (let no : true ≡ false = sym here ∙ valid (no-close leaf e begins) in cc)

    holding : (leaf : Open) → MayBeHere leaf e → HoldNoBlock (open_following leaf e) es →
        MayBeLeft w (opened_by e.name) es
    holding Nothing valid hold =
        inr (subst (λ (x : Bool). HoldNoBlock (cond x (opened_by e.name) Nothing) es) begins hold)
    holding InHeading valid hold = never InHeading valid
    holding InParagraph valid hold = never InParagraph valid
    holding InUnderline valid hold = never InUnderline valid
    holding InTable valid hold = never InTable valid
    holding InEnding valid hold = never InEnding valid

    go : (leaf : Open) → MayBeLeft w leaf (e ∷ es) → MayBeLeft w (opened_by e.name) es
    go leaf (inl one) = inl one
    go leaf (inr hold) = holding leaf hold.0 hold.1

-- What ends what is open, by names.

pub closed-heading : (name : Name) → closed_by InHeading name ≡ is_heading name
closed-heading n.HeadingAtx = refl
closed-heading _ = refl

pub closed-paragraph : (name : Name) → closed_by InParagraph name ≡ is_paragraph name
closed-paragraph n.Paragraph = refl
closed-paragraph _ = refl

pub closed-table : (name : Name) → closed_by InTable name ≡ is_table name
closed-table n.GfmTable = refl
closed-table _ = refl

pub closed-ending : (name : Name) → closed_by InEnding name ≡ is_line_ending name
closed-ending n.LineEnding = refl
closed-ending _ = refl

-- Where a resolver is alone, the others are not wanted.

-- with headings
pub one-heading : (w : Wanted) → is_one w ≡ true → w.atx ≡ true →
    (w.items ≡ false) × (w.setext ≡ false) × (w.tables ≡ false)
one-heading w one h = go w.items w.atx w.setext w.tables one h
  where
    go : (i a s t : Bool) → cond i (not (a || s || t)) (cond a (not (s || t)) (not (s && t))) ≡ true → a ≡ true →
        (i ≡ false) × (s ≡ false) × (t ≡ false)
    go i false s t one h = absurd (let no : false ≡ true = h in cc)
    go true true s t one h = absurd (let no : false ≡ true = one in cc)
    go false true true t one h = absurd (let no : false ≡ true = one in cc)
    go false true false true one h = absurd (let no : false ≡ true = one in cc)
    go false true false false one h = (refl, refl, refl)

-- with setext headings
pub one-setext : (w : Wanted) → is_one w ≡ true → w.setext ≡ true → (w.items ≡ false) × (w.atx ≡ false)
one-setext w one h = go w.items w.atx w.setext w.tables one h
  where
    go : (i a s t : Bool) → cond i (not (a || s || t)) (cond a (not (s || t)) (not (s && t))) ≡ true → s ≡ true →
        (i ≡ false) × (a ≡ false)
    go i a false t one h = absurd (let no : false ≡ true = h in cc)
    go true true true t one h = absurd (let no : false ≡ true = one in cc)
    go true false true t one h = absurd (let no : false ≡ true = one in cc)
    go false true true t one h = absurd (let no : false ≡ true = one in cc)
    go false false true t one h = (refl, refl)

-- with tables
pub one-table : (w : Wanted) → is_one w ≡ true → w.tables ≡ true →
    (w.items ≡ false) × (w.atx ≡ false) × (w.setext ≡ false)
one-table w one h = go w.items w.atx w.setext w.tables one h
  where
    go : (i a s t : Bool) → cond i (not (a || s || t)) (cond a (not (s || t)) (not (s && t))) ≡ true → t ≡ true →
        (i ≡ false) × (a ≡ false) × (s ≡ false)
    go i a s false one h = absurd (let no : false ≡ true = h in cc)
    go true true s true one h = absurd (let no : false ≡ true = one in cc)
    go true false true true one h = absurd (let no : false ≡ true = one in cc)
    go true false false true one h = absurd (let no : false ≡ true = one in cc)
    go false true true true one h = absurd (let no : false ≡ true = one in cc)
    go false true false true one h = absurd (let no : false ≡ true = one in cc)
    go false false true true one h = absurd (let no : false ≡ true = one in cc)
    go false false false true one h = (refl, refl, refl)

-- Within a heading.

-- an event that the other resolvers that are wanted leave as it is
abbrev pub IsQuiet : Wanted → Event → Type 0
IsQuiet w e =
    (w.items ≡ true → is_item (role e.name) ≡ false) × (w.setext ≡ true → is_unturned e ≡ true)
    × (w.tables ≡ true → begins_table (bound_of e) ≡ false)

-- an event of one
pub heading-quiet : (w : Wanted) (e : Event) → is_heading e.name ≡ true → IsQuiet w e
heading-quiet w e h = go e.kind e.name h
  where
    go : (kind : Kind) (name : Name) → is_heading name ≡ true → IsQuiet w (record e { kind = kind; name = name })
    go Enter n.HeadingAtx h = (λ k. refl, λ k. refl, λ k. refl)
    go Exit n.HeadingAtx h = (λ k. refl, λ k. refl, λ k. refl)
    go kind _ h = absurd (let no : false ≡ true = h in cc)

pub quiet-inside : (w : Wanted) (e : Event) (es : List Event) → w.atx ≡ true → MayBeLeft w InHeading (e ∷ es) →
    IsQuiet w e
quiet-inside w e es on h = go h
  where
    by : (x : Bool) → closes InHeading e ≡ x → (closes InHeading e ≡ false → is_set e.name ≡ false) → IsQuiet w e
    by true is valid =
        heading-quiet w e
        (sym (closed-heading e.name) ∙ (and_parts (is_exit e.kind) (closed_by InHeading e.name) is).1)
    by false is valid = (
      λ k. unset-item e.name (valid is),
      λ k. bare-unturned e (unset-bare e.name (valid is)),
      λ k. tableless e.kind e.name (unset-bare e.name (valid is)).table,
    )

    go : MayBeLeft w InHeading (e ∷ es) → IsQuiet w e
    go (inl one) =
        let others = one-heading w one on in (
          λ k. absurd (let no : true ≡ false = sym k ∙ others.0 in cc),
          λ k. absurd (let no : true ≡ false = sym k ∙ others.1 in cc),
          λ k. absurd (let no : true ≡ false = sym k ∙ others.2 in cc),
        )
    go (inr hold) = by (closes InHeading e) refl hold.0

-- one is within it up to its end
pub heading-on : (w : Wanted) (e : Event) (es : List Event) → MayBeLeft w InHeading (e ∷ es) →
    ends is_heading e ≡ false → MayBeLeft w InHeading es
heading-on w e es h k = go h
  where
    stays : closes InHeading e ≡ false
    stays = ap (λ (x : Bool). is_exit e.kind && x) (closed-heading e.name) ∙ k

    go : MayBeLeft w InHeading (e ∷ es) → MayBeLeft w InHeading es
    go (inl one) = inl one
    go (inr hold) = inr (subst (λ (x : Bool). HoldNoBlock (cond x Nothing InHeading) es) stays hold.1)
