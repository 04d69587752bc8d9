-- What is asked of events before lists are put around their items, piece by piece.
use Rattle.std.proofs.Common.{◌≡◌, ℕ, Bool, List, [], ◌∷◌, ◌++◌, refl, ap, ◌∙◌, subst, sym}
use Rattle.md_engine.specs.declared.event.Event.{Event}
use Rattle.md_engine.specs.declared.event.Kind.{Kind}
use Rattle.md_engine.specs.declared.event.Kind.TheVariants.{Enter, Exit}
use Rattle.md_engine.specs.declared.event.Name.{Name}
use Rattle.md_containers.specs.ItemsHeld.{ItemsHeld}
use Rattle.md_containers.specs.ItemsAllowed.{AmongBlocks, ItemsAllowed, Site, site_after}
use Rattle.md_containers.specs.Unlisted.{in_place, unlisted_after, unlisted_left}
use Rattle.md_events.specs.Events.Grammar.{Expression, following, inside, left_after, left_of}
use Rattle.md_events.specs.Events.Nested.{open_after, open_following}
use Rattle.md_events.specs.Events.Spelled.{role}
use Rattle.md_events.proofs.GrammarLemmas.{Leads}

-- what is open after some events
abbrev pub site_following : Site → List Event → Site
site_following site [] = site
site_following site (e ∷ es) = site_following (site_after site e.kind (role e.name) e.point) es

pub are_valid-append : (bytes : List ℕ) (site : Site) (xs ys : List Event) → ItemsAllowed bytes site xs →
    ItemsAllowed bytes (site_following site xs) ys → ItemsAllowed bytes site (xs ++ ys)
are_valid-append bytes site [] ys h k = k
are_valid-append bytes site (e ∷ xs) ys h k =
    (h.0, are_valid-append bytes (site_after site e.kind (role e.name) e.point) xs ys h.1 k)

pub site-append : (site : Site) (xs ys : List Event) →
    site_following site (xs ++ ys) ≡ site_following (site_following site xs) ys
site-append site [] ys = refl
site-append site (e ∷ xs) ys = site-append (site_after site e.kind (role e.name) e.point) xs ys

-- events that may be where this is open, after which that is
pub record ItemsLead (bytes : List ℕ) (from to : Site) (es : List Event) : Type 0 where
  pub are_valid : ItemsAllowed bytes from es
  pub following : site_following from es ≡ to

pub valid-append : (bytes : List ℕ) (a b c : Site) (xs ys : List Event) → ItemsLead bytes a b xs →
    ItemsLead bytes b c ys → ItemsLead bytes a c (xs ++ ys)
valid-append bytes a b c xs ys h k =
    let P : Site → Type 0 = λ site. ItemsAllowed bytes site ys in
    record {
      are_valid = are_valid-append bytes a xs ys h.are_valid (subst P (sym h.following) k.are_valid);
      following = site-append a xs ys ∙ ap (λ (site : Site). site_following site ys) h.following ∙ k.following;
    }

-- among the blocks of these containers
abbrev pub among : List Bool → Site
among held = record { held = held; inner = AmongBlocks }

pub held-append : (names : List Name) (xs ys : List Event) → ItemsHeld names xs →
    ItemsHeld (open_after names xs) ys → ItemsHeld names (xs ++ ys)
held-append names [] ys h k = k
held-append names (e ∷ xs) ys h k = (h.0, held-append (open_following names e.kind e.name) xs ys h.1 k)

pub unlisted-append : (text : Expression) (stack : List Expression) (xs ys : List Event) →
    unlisted_left text stack (xs ++ ys) ≡ unlisted_left text (unlisted_left text stack xs) ys
unlisted-append text stack [] ys = refl
unlisted-append text stack (e ∷ xs) ys =
    unlisted-append text (unlisted_after text stack e.kind e.name) xs ys

-- events after which that is left of this, whatever is around it
abbrev pub Unlists : Expression → List Expression → List Expression → List Event → Type 0
Unlists text from to es = (outer : List Expression) → unlisted_left text (from ++ outer) es ≡ to ++ outer

pub unlists-rest : (text : Expression) (a b outer : List Expression) (xs ys : List Event) → Unlists text a b xs →
    unlisted_left text (a ++ outer) (xs ++ ys) ≡ unlisted_left text (b ++ outer) ys
unlists-rest text a b outer xs ys h =
    unlisted-append text (a ++ outer) xs ys ∙ ap (λ (l : List Expression). unlisted_left text l ys) (h outer)

pub unlists-append : (text : Expression) (a b c : List Expression) (xs ys : List Event) → Unlists text a b xs →
    Unlists text b c ys → Unlists text a c (xs ++ ys)
unlists-append text a b c xs ys h k outer = unlists-rest text a b outer xs ys h ∙ k outer

-- no item and no list
abbrev pub NoListing : List Event → Type 0
NoListing [] = Unit {0}
NoListing (e ∷ es) = (in_place e.name ≡ e.name) × NoListing es

-- where none is, the grammar of events is the same with lists and without
pub unlisted-same : (text : Expression) (stack : List Expression) (es : List Event) → NoListing es →
    unlisted_left text stack es ≡ left_of text stack es
unlisted-same text stack [] h = refl
unlisted-same text stack (e ∷ es) h =
    ap (λ (s : List Expression). unlisted_left text s es) (go stack e.kind)
    ∙ unlisted-same text (left_after text stack e.kind e.name) es h.1
  where
    go : (stack : List Expression) (kind : Kind) →
        unlisted_after text stack kind e.name ≡ left_after text stack kind e.name
    go [] kind = refl
    go (x ∷ xs) Enter = ap (λ (name : Name). inside text e.name ∷ following name x ∷ xs) h.0
    go (x ∷ xs) Exit = refl

-- so what leads by the grammar of events leads by this one
pub unlists-same : (text : Expression) (a b : List Expression) (es : List Event) → NoListing es → Leads text a b es →
    Unlists text a b es
unlists-same text a b es none h outer = unlisted-same text (a ++ outer) es none ∙ h outer
