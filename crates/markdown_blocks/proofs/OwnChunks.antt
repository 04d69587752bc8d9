-- A block list has its own chunks in their places, as if an inline layer gave each chunk as it is. So what holds of a
-- block list with what a layer gives holds of the block list.
use Rattle.std.proofs.Common.{◌≡◌, ℕ, zero, suc, Bool, true, false, cond, ◌&&◌, not, List, [], ◌∷◌, ◌++◌, refl, ap, sym}
use Rattle.std.proofs.Common.{◌∙◌, subst}
use Rattle.std.specs.Prelude.{◌==◌}
use Rattle.std.proofs.lemmas.Bool.{and_parts, not-true}
use Rattle.md_engine.specs.declared.event.Event.{Event}
use Rattle.md_engine.specs.declared.event.Kind.TheVariants.{Enter, Exit}
use Rattle.md_engine.specs.declared.event.Name.{Name}
use Rattle.md_engine.specs.declared.event.Name.TheVariants as n
use Rattle.md_events.specs.Events.Inline.{is_linked}
use Rattle.md_events.specs.Events.Nested.{is_exit}
use Rattle.md_events.specs.Events.Spelled.{role}
use Rattle.md_events.specs.Events.Tiles.{chunks_in_parts, depth_following, filled, filled_from, first_list}
use Rattle.md_events.specs.Events.Tiles.{further_lists, is_chunk, is_data, is_part, may_be_in_part}
use Rattle.md_events.proofs.FilledLemmas.{EachInline, chunk-following, chunk-parts}
use Rattle.md_events.proofs.SpelledLemmas.{QuietOrEnding}

-- its chunks, each the events of its begin and its end
abbrev pub own : List Event → List (List Event)
own [] = []
own (e ∷ []) = []
own (e ∷ f ∷ es) = cond (is_linked e) ((e ∷ f ∷ []) ∷ own es) (own (f ∷ es))

abbrev IsOwn : List Event → Type 0
IsOwn es = (filled es (own es) ≡ es) × EachInline (own es)

abbrev Own : List Event → Type 0
Own es = (depth : ℕ) → chunks_in_parts depth es ≡ true → IsOwn es

abbrev OwnFollowing : List Event → Type 0
OwnFollowing [] = Unit {0}
OwnFollowing (e ∷ es) = Own es

data-quiet : (name : Name) → is_data name ≡ true → QuietOrEnding (role name)
data-quiet n.Data h = tt
data-quiet _ h = cc

-- an event with no link
own-unlinked : (e : Event) (es : List Event) → is_linked e ≡ false → IsOwn es → IsOwn (e ∷ es)
own-unlinked e [] unlinked is = (
  ap (λ (x : Bool). cond x (first_list [] ++ filled_from true [] (further_lists [])) (e ∷ [])) unlinked,
  tt,
)
own-unlinked e (f ∷ es) unlinked is = (
  ap (filled (e ∷ f ∷ es)) lists
      ∙ ap
      (λ (x : Bool).
      cond x (first_list left ++ filled_from true (f ∷ es) (further_lists left)) (e ∷ filled_from false (f ∷ es) left))
      unlinked
      ∙ ap (λ (l : List Event). e ∷ l) is.0,
  subst EachInline (sym lists) is.1,
)
  where
    left : List (List Event)
    left = own (f ∷ es)

    lists : own (e ∷ f ∷ es) ≡ left
    lists = ap (λ (x : Bool). cond x ((e ∷ f ∷ []) ∷ own es) (own (f ∷ es))) unlinked

-- a chunk
own-linked : (e f : Event) (es : List Event) → is_linked e ≡ true → is_chunk e (f ∷ es) ≡ true → IsOwn es →
    IsOwn (e ∷ f ∷ es)
own-linked e f es linked chunk is = (
  ap (filled (e ∷ f ∷ es)) lists
      ∙ ap
      (λ (x : Bool).
      cond x (first_list all ++ filled_from true (f ∷ es) (further_lists all)) (e ∷ filled_from false (f ∷ es) all))
      linked
      ∙ ap (λ (l : List Event). e ∷ f ∷ l) is.0,
  subst EachInline (sym lists) ((data-quiet e.name facts.1, (data-quiet f.name facts.3, tt)), is.1),
)
  where
    facts : (e.kind ≡ Enter) × (is_data e.name ≡ true) × (f.kind ≡ Exit) × (is_data f.name ≡ true)
    facts = chunk-parts e f es chunk

    all : List (List Event)
    all = (e ∷ f ∷ []) ∷ own es

    lists : own (e ∷ f ∷ es) ≡ all
    lists = ap (λ (x : Bool). cond x ((e ∷ f ∷ []) ∷ own es) (own (f ∷ es))) linked

own-chunk : (e : Event) (es : List Event) (depth : ℕ) → OwnFollowing es → is_linked e ≡ true → is_chunk e es ≡ true →
    chunks_in_parts (depth_following e.kind (suc depth)) es ≡ true → IsOwn (e ∷ es)
own-chunk e [] depth following linked chunk valid = cc
own-chunk e (f ∷ es) depth following linked chunk valid =
    own-linked e f es linked chunk (following (suc depth) (chunk-following depth e f es chunk valid))

own-step : (e : Event) (es : List Event) → Own es → OwnFollowing es → Own (e ∷ es)
own-step e es inner following zero valid =
    let both : (not (is_linked e) ≡ true) ×
    (chunks_in_parts (cond (is_part e.name && not (is_exit e.kind)) 1 0) es ≡ true) = and_parts (not (is_linked e))
    (chunks_in_parts (cond (is_part e.name && not (is_exit e.kind)) 1 0) es) valid in
    own-unlinked e es (not-true (is_linked e) both.0)
    (inner (cond (is_part e.name && not (is_exit e.kind)) 1 0) both.1)
own-step e es inner following (suc depth) valid = go (is_part e.name) (is_linked e) refl valid
  where
    go : (x y : Bool) → is_linked e ≡ y →
        cond x (is_exit e.kind && (depth == 0) && not (is_linked e) && chunks_in_parts 0 es)
        (cond (is_linked e) ((depth == 0) && is_chunk e es) (may_be_in_part e.kind e.name)
        && chunks_in_parts (depth_following e.kind (suc depth)) es) ≡
        true →
        IsOwn (e ∷ es)
    go true y linked k =
        let outer : (is_exit e.kind && (depth == 0) && not (is_linked e) ≡ true) ×
        (chunks_in_parts 0 es ≡ true) = and_parts (is_exit e.kind && (depth == 0) && not (is_linked e))
        (chunks_in_parts 0 es) k in
        own-unlinked e es
        (not-true (is_linked e) (and_parts (is_exit e.kind && (depth == 0)) (not (is_linked e)) outer.0).1)
        (inner 0 outer.1)
    go false y linked k =
        let outer : (cond (is_linked e) ((depth == 0) && is_chunk e es) (may_be_in_part e.kind e.name) ≡ true) ×
        (chunks_in_parts (depth_following e.kind (suc depth)) es ≡ true) =
        and_parts (cond (is_linked e) ((depth == 0) && is_chunk e es) (may_be_in_part e.kind e.name))
        (chunks_in_parts (depth_following e.kind (suc depth)) es) k in
        by y linked
        (subst
        (λ (x : Bool). cond x ((depth == 0) && is_chunk e es) (may_be_in_part e.kind e.name) ≡ true) linked outer.0)
        outer.1
      where
        by : (y : Bool) → is_linked e ≡ y →
            cond y ((depth == 0) && is_chunk e es) (may_be_in_part e.kind e.name) ≡ true →
            chunks_in_parts (depth_following e.kind (suc depth)) es ≡ true → IsOwn (e ∷ es)
        by false linked inside on = own-unlinked e es linked (inner (depth_following e.kind (suc depth)) on)
        by true linked chunk on =
            own-chunk e es depth following linked (and_parts (depth == 0) (is_chunk e es) chunk).1 on

own-both : (es : List Event) → (inner : Own es) × OwnFollowing es
own-both [] = ((λ depth valid. (refl, tt)), tt)
own-both (e ∷ es) =
    let both : (inner : Own es) × OwnFollowing es = own-both es in (own-step e es both.0 both.1, both.0)

pub own-filled : (blocks : List Event) → chunks_in_parts 0 blocks ≡ true → filled blocks (own blocks) ≡ blocks
own-filled blocks valid = ((own-both blocks).0 0 valid).0

pub own-inline : (blocks : List Event) → chunks_in_parts 0 blocks ≡ true → EachInline (own blocks)
own-inline blocks valid = ((own-both blocks).0 0 valid).1
