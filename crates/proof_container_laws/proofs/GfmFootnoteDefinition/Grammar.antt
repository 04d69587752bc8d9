-- What is before the content of a footnote definition keeps the grammar of events, and lists can be determined around
-- it.
use Rattle.std.proofs.Common.{ℕ, Bool, true, false, List, [], ◌∷◌, ◌++◌, refl}
use Rattle.std.specs.Prelude.{Option}
use Rattle.md_engine.specs.declared.event.Event.{Event}
use Rattle.md_engine.specs.declared.event.Link.{Link}
use Rattle.md_engine.specs.declared.event.Name.TheVariants as n
use Rattle.md_engine.specs.declared.event.Point.{Point}
use Rattle.md_containers.specs.ItemsAllowed.{InLabel, Site}
use Rattle.md_containers.proofs.UnlistedLemmas.{NoListing, ItemsLead, Unlists, among, valid-append, unlists-same}
use Rattle.md_events.specs.Events.Grammar.{Expression, Then, following, after_block, blocks, one, white}
use Rattle.md_events.specs.Events.Nested.{enter}
use Rattle.md_events.proofs.GrammarLemmas.{Leads, leads-append, leads-around}
use Rattle.proof_frame.proofs.ContainerNames.{TakesData}
use Rattle.proof_container_laws.proofs.GfmFootnoteDefinition.Prefix.{IsFront, before_label, following_colon}
use Rattle.proof_container_laws.proofs.GfmFootnoteDefinition.Prefix.{after_label, colon_at, data_at, front-each}
use Rattle.proof_container_laws.proofs.GfmFootnoteDefinition.Prefix.{front_by, label_at, label_end, label_part}
use Rattle.proof_frame.proofs.LeafAllowed.{site_of}

-- with the begin of the footnote definition, they lead from blocks into those of it, where its label may be
pub front-leads : (bytes label : List ℕ) (link : Option Link) (p q : Point) (es : List Event) →
    IsFront bytes label link p q es → NoListing es → (text : Expression) → TakesData text →
    Unlists text (blocks ∷ []) (blocks ∷ after_block ∷ []) (enter n.GfmFootnoteDefinition p ∷ es)
front-leads bytes label link p q es is none text takes =
    unlists-same text (blocks ∷ []) (blocks ∷ after_block ∷ []) (enter n.GfmFootnoteDefinition p ∷ es)
    (refl, none) (front-each Leading bytes label link p q es is go)
  where
    Leading : List Event → Type 0
    Leading xs = Leads text (blocks ∷ []) (blocks ∷ after_block ∷ []) (enter n.GfmFootnoteDefinition p ∷ xs)

    first : Point
    first = label_at is.start

    end : Point
    end = label_end label is.start

    -- what is left around a label, and after it
    around_label : List Expression
    around_label = Then (one n.DefinitionMarker) white ∷ blocks ∷ after_block ∷ []

    string : Expression
    string = Then (one n.GfmFootnoteDefinitionLabelString) (one n.GfmFootnoteDefinitionLabelMarker)

    before : (bare : Bool) →
        Leads text (blocks ∷ []) (string ∷ around_label)
        (enter n.GfmFootnoteDefinition p ∷ before_label bare p is.start)
    before true outer = refl
    before false outer = refl

    name : Leads text (string ∷ around_label) (one n.GfmFootnoteDefinitionLabelMarker ∷ around_label)
        (label_part link first end)
    name outer =
        leads-around text string n.GfmFootnoteDefinitionLabelString first end (data_at link first end)
        (record { left = following n.Data text; leads = λ outer. refl; ends = takes }) (around_label ++ outer)

    after : (same : Bool) →
        Leads text (one n.GfmFootnoteDefinitionLabelMarker ∷ around_label) (blocks ∷ after_block ∷ [])
        (after_label same end (colon_at label is.start) (following_colon label is.start) q)
    after true outer = refl
    after false outer = refl

    all : (bare same : Bool) →
        Leads text (blocks ∷ []) (blocks ∷ after_block ∷ [])
        ((enter n.GfmFootnoteDefinition p ∷ before_label bare p is.start)
        ++ (label_part link first end
        ++ after_label same end (colon_at label is.start) (following_colon label is.start) q))
    all bare same =
        leads-append text (blocks ∷ []) (string ∷ around_label) (blocks ∷ after_block ∷ [])
        (enter n.GfmFootnoteDefinition p ∷ before_label bare p is.start)
        (label_part link first end
        ++ after_label same end (colon_at label is.start) (following_colon label is.start) q) (before bare)
        (leads-append text (string ∷ around_label) (one n.GfmFootnoteDefinitionLabelMarker ∷ around_label)
        (blocks ∷ after_block ∷ []) (label_part link first end)
        (after_label same end (colon_at label is.start) (following_colon label is.start) q) name (after same))

    go : (bare same : Bool) → Leading (front_by link bare same label p is.start q)
    go true true = all true true
    go true false = all true false
    go false true = all false true
    go false false = all false false

-- blocks may be in it
pub front-valid : (bytes label : List ℕ) (link : Option Link) (p q : Point) (es : List Event) (held : List Bool) →
    IsFront bytes label link p q es →
    ItemsLead bytes (among held) (among (false ∷ held)) (enter n.GfmFootnoteDefinition p ∷ es)
front-valid bytes label link p q es held is =
    front-each Situation bytes label link p q es is go
  where
    Situation : List Event → Type 0
    Situation xs = ItemsLead bytes (among held) (among (false ∷ held)) (enter n.GfmFootnoteDefinition p ∷ xs)

    start : Point
    start = is.start

    end : Point
    end = label_end label start

    close : Point
    close = colon_at label start

    after_it : Point
    after_it = following_colon label start

    -- up to the end of its label, and after that
    front : Site
    front = site_of (false ∷ held) InLabel

    inside : Site
    inside = among (false ∷ held)

    begin : ItemsLead bytes (among held) front (enter n.GfmFootnoteDefinition p ∷ [])
    begin = record { are_valid = (tt, tt); following = refl }

    before : (bare : Bool) → ItemsLead bytes front front (before_label bare p start)
    before true = record { are_valid = (tt, (tt, (tt, (tt, (tt, (tt, tt)))))); following = refl }
    before false = record { are_valid = (tt, (tt, (tt, (tt, (tt, (tt, (tt, (tt, tt)))))))); following = refl }

    string : ItemsLead bytes front inside (label_part link (label_at start) end)
    string = record { are_valid = (tt, (tt, (tt, (tt, tt)))); following = refl }

    after : (same : Bool) → ItemsLead bytes inside inside (after_label same end close after_it q)
    after true = record { are_valid = (tt, (tt, (tt, (tt, (tt, (tt, tt)))))); following = refl }
    after false = record { are_valid = (tt, (tt, (tt, (tt, (tt, (tt, (tt, (tt, tt)))))))); following = refl }

    all : (bare same : Bool) →
        Situation
        (before_label bare p start ++ (label_part link (label_at start) end ++ after_label same end close after_it q))
    all bare same =
        let rest : List Event = label_part link (label_at start) end ++ after_label same end close after_it q in
        valid-append bytes (among held) front inside (enter n.GfmFootnoteDefinition p ∷ [])
        (before_label bare p start ++ rest) begin
        (valid-append bytes front front inside (before_label bare p start) rest (before bare)
        (valid-append bytes front inside inside (label_part link (label_at start) end)
        (after_label same end close after_it q) string (after same)))

    go : (bare same : Bool) → Situation (front_by link bare same label p start q)
    go true true = all true true
    go true false = all true false
    go false true = all false true
    go false false = all false false
