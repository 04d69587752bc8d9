-- Events before others whose text parts are filled: those of both are.
use Rattle.std.proofs.Common.{◌≡◌, ℕ, Bool, true, false, cond, not, List, [], ◌∷◌, ◌++◌, refl, ap, sym, ◌∙◌, subst}
use Rattle.std.proofs.Common.{append_assoc}
use Rattle.std.specs.Prelude.{Option, Some, None}
use Rattle.std.specs.List.{list_all}
use Rattle.std.proofs.lemmas.Bool.{and_from, and_parts}
use Rattle.md_engine.specs.declared.event.Content.{Content}
use Rattle.md_engine.specs.declared.event.Event.{Event}
use Rattle.md_engine.specs.declared.event.Kind.{Kind}
use Rattle.md_engine.specs.declared.event.Kind.TheVariants.{Enter, Exit}
use Rattle.md_engine.specs.declared.event.Name.{Name}
use Rattle.md_engine.specs.declared.event.Name.TheVariants as n
use Rattle.md_engine.specs.declared.event.Point.{Point}
use Rattle.md_events.specs.declared.inline.Chunk.{Chunk}
use Rattle.md_events.specs.declared.inline.PartKind.{PartKind}
use Rattle.md_events.specs.declared.inline.PartKind.TheVariants as kind
use Rattle.md_events.specs.Events.Inline.{Part, pieces}
use Rattle.md_events.specs.Events.Nested.{around, enter, exit, pair}
use Rattle.md_events.specs.Events.Tiles.{chunks, inside_part, part_at, part_kind, part_of, parts}
use Rattle.md_events.specs.Exact.Places.{TextLine, chunk, is_same, part, piece, place, text_part, white}
use Rattle.md_inline_events.specs.Woven.{is_text}
use Rattle.md_meaning.specs.Rest.{Rest}
use Rattle.proof_frame.proofs.PartFacts.{NoParts, part-inside}
use Rattle.md_inline_events.specs.TreeTexts.{are_filled, is_filled_part}

-- all text parts of these events are filled
abbrev pub AreFilled : List ℕ → List Event → Type 0
AreFilled bytes es = list_all (is_filled_part bytes) (parts es) ≡ true

-- so they are where these events come first, if they are in what is after them
pub record Filled (bytes : List ℕ) (es : List Event) : Type 0 where
  pub before : (more : List Event) → AreFilled bytes more → AreFilled bytes (es ++ more)

pub filled-none : {bytes : List ℕ} → Filled bytes []
filled-none = record { before = λ more h. h }

pub filled-append : {bytes : List ℕ} (es fs : List Event) → Filled bytes es → Filled bytes fs → Filled bytes (es ++ fs)
filled-append {bytes} es fs h k = record {
  before =
      λ more filled.
      subst (AreFilled bytes) (sym (append_assoc es fs more)) (h.before (fs ++ more) (k.before more filled));
}

both-filled : (bytes : List ℕ) (xs ys : List Part) → list_all (is_filled_part bytes) xs ≡ true →
    list_all (is_filled_part bytes) ys ≡ true → list_all (is_filled_part bytes) (xs ++ ys) ≡ true
both-filled bytes [] ys h k = k
both-filled bytes (x ∷ xs) ys h k =
    let both : (is_filled_part bytes x ≡ true) × (list_all (is_filled_part bytes) xs ≡ true) =
    and_parts (is_filled_part bytes x) (list_all (is_filled_part bytes) xs) h in
    and_from (is_filled_part bytes x) (list_all (is_filled_part bytes) (xs ++ ys)) both.0
    (both-filled bytes xs ys both.1 k)

-- Events that begin no part that must be filled.

abbrev pub is_plain_kind : Option PartKind → Bool
is_plain_kind None = true
is_plain_kind (Some kind) = not (is_text kind)

-- no part of this name must be filled
abbrev pub is_plain : Name → Bool
is_plain name = is_plain_kind (part_kind name)

string-filled : (bytes : List ℕ) (cs : List Chunk) → list_all (is_filled_part bytes) (part_of kind.String cs) ≡ true
string-filled bytes [] = refl
string-filled bytes (c ∷ cs) = refl

plain-part : (bytes : List ℕ) (at : Kind) (o : Option PartKind) (es : List Event) → is_plain_kind o ≡ true →
    list_all (is_filled_part bytes) (part_at at o es) ≡ true
plain-part bytes Exit o es h = refl
plain-part bytes Enter None es h = refl
plain-part bytes Enter (Some kind.String) es h = string-filled bytes (chunks (pieces (inside_part es)))
plain-part bytes Enter (Some kind.Text) es h = absurd (cc)

pub filled-event : {bytes : List ℕ} (e : Event) → is_plain e.name ≡ true → Filled bytes (e ∷ [])
filled-event {bytes} e h = record {
  before =
      λ more filled.
      both-filled bytes (part_at e.kind (part_kind e.name) more) (parts more)
      (plain-part bytes e.kind (part_kind e.name) more h) filled;
}

-- an end begins none
pub filled-exit : {bytes : List ℕ} (name : Name) (p : Point) → Filled bytes (exit name p ∷ [])
filled-exit name p = record { before = λ more filled. filled }

pub filled-around : {bytes : List ℕ} (name : Name) (p q : Point) (inside : List Event) → is_plain name ≡ true →
    Filled bytes inside → Filled bytes (around name p q inside)
filled-around name p q inside h k =
    filled-append (enter name p ∷ []) (inside ++ exit name q ∷ []) (filled-event (enter name p) h)
    (filled-append inside (exit name q ∷ []) k (filled-exit name q))

pub filled-pair : {bytes : List ℕ} (name : Name) (p q : Point) → is_plain name ≡ true → Filled bytes (pair name p q)
filled-pair name p q h = filled-around name p q [] h filled-none

pub filled-piece : {bytes : List ℕ} (line : TextLine) (name : Name) (r s : Rest) → is_plain name ≡ true →
    Filled bytes (piece line name r s)
filled-piece {bytes} line name r s h = go (is_same r s)
  where
    go : (x : Bool) → Filled bytes (cond x [] (part line name r s []))
    go true = filled-none
    go false = filled-around name (place line r) (place line s) [] h filled-none

pub filled-part : {bytes : List ℕ} (line : TextLine) (name : Name) (r s : Rest) (inside : List Event) →
    is_plain name ≡ true → Filled bytes inside → Filled bytes (part line name r s inside)
filled-part line name r s inside h k = filled-around name (place line r) (place line s) inside h k

pub filled-white : {bytes : List ℕ} (line : TextLine) (r s : Rest) → Filled bytes (white line r s)
filled-white line r s = filled-piece line n.SpaceOrTab r s refl

pub filled-chunk : {bytes : List ℕ} (c : Content) (p q : Point) → Filled bytes (chunk c p q)
filled-chunk c p q = record { before = λ more filled. filled }

-- a part of one line, if it is no text
pub filled-string : {bytes : List ℕ} (line : TextLine) (c : Content) (name : Name) (r s : Rest) →
    is_plain name ≡ true → Filled bytes (text_part line c name r s)
filled-string {bytes} line c name r s h = go (is_same r s)
  where
    go : (x : Bool) → Filled bytes (cond x [] (part line name r s (chunk c (place line r) (place line s))))
    go true = filled-none
    go false =
        filled-part line name r s (chunk c (place line r) (place line s)) h
        (filled-chunk c (place line r) (place line s))

-- Texts.

pub none-filled : {bytes : List ℕ} (es : List Event) → NoParts es → Filled bytes es
none-filled [] h = filled-none
none-filled (e ∷ es) h =
    filled-append (e ∷ []) es (filled-event e (ap is_plain_kind h.0)) (none-filled es h.1)

text-part : (bytes : List ℕ) (cs : List Chunk) → are_filled bytes cs ≡ true →
    list_all (is_filled_part bytes) (part_of kind.Text cs) ≡ true
text-part bytes [] h = refl
text-part bytes (c ∷ cs) h = and_from (are_filled bytes (c ∷ cs)) true h refl

-- a part whose chunks are filled, and which holds no other part
pub filled-text : {bytes : List ℕ} (name : Name) (p q : Point) (inside : List Event) →
    part_kind name ≡ Some kind.Text → NoParts inside → are_filled bytes (chunks (pieces inside)) ≡ true →
    Filled bytes (around name p q inside)
filled-text {bytes} name p q inside named none h = record {
  before =
      λ more filled.
      let rest : List Event = inside ++ exit name q ∷ more in
      let same : (inside ++ exit name q ∷ []) ++ more ≡ rest = append_assoc inside (exit name q ∷ []) more in
      both-filled bytes (part_at Enter (part_kind name) ((inside ++ exit name q ∷ []) ++ more))
      (parts ((inside ++ exit name q ∷ []) ++ more))
      (ap (λ (l : List Event). list_all (is_filled_part bytes) (part_at Enter (part_kind name) l)) same
      ∙ ap (λ (o : Option PartKind). list_all (is_filled_part bytes) (part_at Enter o rest)) named
      ∙ ap (λ (l : List Event). list_all (is_filled_part bytes) (part_of kind.Text (chunks (pieces l))))
      (part-inside name kind.Text q inside more named none)
      ∙ text-part bytes (chunks (pieces inside)) h)
      (subst (AreFilled bytes) (sym same)
      ((none-filled inside none).before (exit name q ∷ more) ((filled-exit {bytes = bytes} name q).before more filled)));
}
