-- Events that fit the resolvers: what follows them fits where they begin if it does after them.
use Rattle.std.proofs.Common.{◌≡◌, Bool, true, false, cond, List, [], ◌∷◌, ◌++◌, Option, Some, None, refl, sym, subst}
use Rattle.std.proofs.Common.{append_assoc}
use Rattle.md_engine.specs.declared.event.Event.{Event}
use Rattle.md_engine.specs.declared.event.Kind.{Kind}
use Rattle.md_engine.specs.declared.event.Kind.TheVariants.{Enter, Exit}
use Rattle.md_engine.specs.declared.event.Link.{Link}
use Rattle.md_engine.specs.declared.event.Name.{Name}
use Rattle.md_engine.specs.declared.event.Name.TheVariants as n
use Rattle.md_engine.specs.declared.event.Point.{Point}
use Rattle.md_containers.specs.ItemsHeld.{IsHeld, ItemsHeld}
use Rattle.md_containers.specs.Listed.{Begins, Ends, Stays, is_item, turn}
use Rattle.md_containers.specs.Unlisted.{in_place}
use Rattle.md_containers.proofs.UnlistedLemmas.{NoListing, held-append}
use Rattle.md_events.specs.Events.Nested.{Balanced, around, exit, open_after, open_following}
use Rattle.md_events.specs.Events.Spelled.{Role, role}
use Rattle.md_events.proofs.NestedLemmas.{balanced-open}
use Rattle.md_order.proofs.Nests.Fits.{RunsAlone}
use Rattle.proof_frame.proofs.EachEvent.{Each}
use Rattle.proof_frame.proofs.OutsideFacts.{AreOutside}
use Rattle.proof_frame.proofs.UnturnedFacts.{AreUnturned}

-- What holds of what follows some events holds of all of it.

abbrev pub Keeps : (List Event → Type 0) → List Event → Type 0
Keeps P es = (following : List Event) → P following → P (es ++ following)

pub keeps-append : (P : List Event → Type 0) (xs ys : List Event) → Keeps P xs → Keeps P ys → Keeps P (xs ++ ys)
keeps-append P xs ys h k = λ zs l. subst P (sym (append_assoc xs ys zs)) (h (ys ++ zs) (k zs l))

-- as of texts of headings,
abbrev pub KeepsRuns : List Event → Type 0
KeepsRuns es = Keeps (RunsAlone None) es

-- and of items, whatever is open.
abbrev pub KeepsItems : List Event → Type 0
KeepsItems es = (names : List Name) → Keeps (ItemsHeld names) es

pub items-append : (xs ys : List Event) → KeepsItems xs → KeepsItems ys → KeepsItems (xs ++ ys)
items-append xs ys h k = λ names. keeps-append (ItemsHeld names) xs ys (h names) (k names)

-- what is asked of the events of a leaf that always ends on its line, as its states leave them
pub record NestFacts (es : List Event) : Type 0 where
  pub items : KeepsItems es
  pub runs : KeepsRuns es
  pub turns : AreUnturned es

-- Where no heading begins.
pub outside-runs : (es : List Event) → AreOutside es → KeepsRuns es
outside-runs [] h = λ ys k. k
outside-runs (e ∷ es) h = λ ys k.
    subst (λ (x : Bool). RunsAlone (cond x (Some []) None) (es ++ ys)) (sym h.0) (outside-runs es h.1 ys k)

-- Items.

-- an event that is no item is anywhere: each name is tested
no_item : (name : Name) → in_place name ≡ name → is_item (role name) ≡ false
no_item n.ListItem h = cc
no_item _ h = refl

-- whatever ends may be an item
pub end-held : (x : Role) (names : List Name) → IsHeld (turn Exit x) names
end-held x names = go (is_item x)
  where
    go : (item : Bool) → IsHeld (cond item Ends Stays) names
    go true = tt
    go false = tt

stays-held : (kind : Kind) (x : Role) (names : List Name) → is_item x ≡ false → IsHeld (turn kind x) names
stays-held Enter x names h = subst (λ (item : Bool). IsHeld (cond item Begins Stays) names) (sym h) tt
stays-held Exit x names h = end-held x names

-- some of which none is an item
abbrev pub IsNoItem : Event → Type 0
IsNoItem e = is_item (role e.name) ≡ false

plain-held : (names : List Name) (es : List Event) → Each IsNoItem es → ItemsHeld names es
plain-held names [] h = tt
plain-held names (e ∷ es) h =
    (stays-held e.kind (role e.name) names h.0, plain-held (open_following names e.kind e.name) es h.1)

-- as where no list is
unlisted-plain : (es : List Event) → NoListing es → Each IsNoItem es
unlisted-plain [] h = tt
unlisted-plain (e ∷ es) h = (no_item e.name h.0, unlisted-plain es h.1)

pub unlisted-held : (names : List Name) (es : List Event) → NoListing es → ItemsHeld names es
unlisted-held names es h = plain-held names es (unlisted-plain es h)

-- events before others
pub held-through : (from to : List Name) (xs ys : List Event) → ItemsHeld from xs → open_after from xs ≡ to →
    ItemsHeld to ys → ItemsHeld from (xs ++ ys)
held-through from to xs ys h opened k =
    held-append from xs ys h (subst (λ (names : List Name). ItemsHeld names ys) (sym opened) k)

-- some that nest, of which none is an item
pub plain-items : (es : List Event) → Balanced es → Each IsNoItem es → KeepsItems es
plain-items es nested none = λ names ys h.
    held-through names names es ys (plain-held names es none) (balanced-open names es nested) h

pub balanced-items : (es : List Event) → Balanced es → NoListing es → KeepsItems es
balanced-items es nested none = plain-items es nested (unlisted-plain es none)

-- Parts.

-- what holds before the begin of a part of this name, if it does after it; and so for its end
pub record OfPart (X : List Name → List Event → Type 0) (name : Name) : Type 0 where
  pub begins : (p : Point) (link : Option Link) (es : List Event) → X (name ∷ []) es →
      X [] (record { kind = Enter; name = name; point = p; link = link } ∷ es)
  pub ends : (p : Point) (es : List Event) → X [] es → X (name ∷ []) (exit name p ∷ es)

-- as of items, within what is open
abbrev pub HeldIn : List Name → List Name → List Event → Type 0
HeldIn outer names es = ItemsHeld (names ++ outer) es

pub items-part : (outer : List Name) (name : Name) → is_item (role name) ≡ false → OfPart (HeldIn outer) name
items-part outer name none = record {
  begins = λ p link es h. (stays-held Enter (role name) outer none, h);
  ends = λ p es h. (end-held (role name) (name ∷ outer), h);
}

pub items-around : (name : Name) (p q : Point) (inside : List Event) → is_item (role name) ≡ false →
    KeepsItems inside → KeepsItems (around name p q inside)
items-around name p q inside none h = λ names ys k.
    let part = items-part names name none in
    part.begins p None ((inside ++ exit name q ∷ []) ++ ys)
    (subst (ItemsHeld (name ∷ names)) (sym (append_assoc inside (exit name q ∷ []) ys))
    (h (name ∷ names) (exit name q ∷ ys) (part.ends q ys k)))
