-- Events that are read in the places of the chunks of others.
use Rattle.std.proofs.Common.{◌≡◌, ℕ, true, false, cond, List, [], ◌∷◌, ◌++◌, refl, ap, sym, ◌∙◌, subst, append_assoc}
use Rattle.std.proofs.Common.{append-nil}
use Rattle.std.specs.Prelude.{Option, Some, None}
use Rattle.md_engine.specs.declared.event.Event.{Event}
use Rattle.md_engine.specs.declared.event.Link.{Link}
use Rattle.md_engine.specs.declared.event.Name.{Name}
use Rattle.md_engine.specs.declared.event.Name.TheVariants as n
use Rattle.md_engine.specs.declared.event.Point.{Point}
use Rattle.md_events.specs.declared.inline.Chunk.{Chunk}
use Rattle.md_events.specs.declared.inline.PartKind.{PartKind}
use Rattle.md_events.specs.Events.Inline.{Fills, Part, pieces, plain_chunk, plain_chunks, together}
use Rattle.md_events.specs.Events.Nested.{around, enter, exit}
use Rattle.md_events.specs.Events.Tiles.{EachRead, chunks, filled_from, first_list, further_lists, part_at, part_kind}
use Rattle.md_events.specs.Events.Tiles.{part_of, parts, plain_lists, plain_read}
use Rattle.md_events.proofs.NestsLemmas.{part-none, together-append}
use Rattle.proof_frame.specs.ReadsPlain.{reads_plain}
use Rattle.proof_frame.specs.Linked.{linked}
use Rattle.proof_frame.proofs.PartFacts.{NoLinks, NoParts, kind-no_part, part-inside}
use Rattle.proof_frame.proofs.PartsValid.{Inside}

-- The same, whatever is after them: the events have these parts, and each is read.
pub record PartsRead (bytes : List ℕ) (blocks events : List Event) : Type 0 where
  pub own : List Part
  pub each : EachRead (reads_plain bytes) own (plain_lists bytes own)
  pub parts_are : (ys : List Event) → parts (blocks ++ ys) ≡ own ++ parts ys
  pub read : (ys : List Event) (more : List (List Event)) →
      filled_from false (blocks ++ ys) (together (plain_lists bytes own) ++ more) ≡ events ++ filled_from false ys more

-- what is read of parts, and of others after them
pub lists-append : (bytes : List ℕ) (ps qs : List Part) →
    plain_lists bytes (ps ++ qs) ≡ plain_lists bytes ps ++ plain_lists bytes qs
lists-append bytes [] qs = refl
lists-append bytes (part ∷ ps) qs =
    ap (λ (l : List (List (List Event))). plain_chunks bytes part.chunks ∷ l) (lists-append bytes ps qs)

pub each-append : (bytes : List ℕ) (ps qs : List Part) (xs ys : List (List (List Event))) →
    EachRead (reads_plain bytes) ps xs → EachRead (reads_plain bytes) qs ys →
    EachRead (reads_plain bytes) (ps ++ qs) (xs ++ ys)
each-append bytes [] qs [] ys h k = k
each-append bytes [] qs (l ∷ xs) ys h k = absurd h
each-append bytes (part ∷ ps) qs [] ys h k = absurd h
each-append bytes (part ∷ ps) qs (l ∷ xs) ys h k = (h.0, h.1, each-append bytes ps qs xs ys h.2 k)

pub fill-append : (bytes : List ℕ) (xs zs more done : List Event) → PartsRead bytes xs zs → PartsRead bytes more done →
    PartsRead bytes (xs ++ more) (zs ++ done)
fill-append bytes xs zs more done h k = record {
  own = h.own ++ k.own;
  each =
      subst (EachRead (reads_plain bytes) (h.own ++ k.own)) (sym (lists-append bytes h.own k.own))
      (each-append bytes h.own k.own (plain_lists bytes h.own) (plain_lists bytes k.own) h.each k.each);
  parts_are =
      λ ys. ap parts (append_assoc xs more ys) ∙ h.parts_are (more ++ ys)
      ∙ ap (λ (l : List Part). h.own ++ l) (k.parts_are ys) ∙ sym (append_assoc h.own k.own (parts ys));
  read = λ ys rest.
      let first : List (List (List Event)) = plain_lists bytes h.own in
      let then : List (List (List Event)) = plain_lists bytes k.own in
      ap (λ (l : List (List (List Event))). filled_from false ((xs ++ more) ++ ys) (together l ++ rest))
      (lists-append bytes h.own k.own)
      ∙ ap (λ (l : List Event). filled_from false l (together (first ++ then) ++ rest)) (append_assoc xs more ys)
      ∙ ap (λ (l : List (List Event)). filled_from false (xs ++ (more ++ ys)) l)
      (ap (λ (l : List (List Event)). l ++ rest) (together-append first then)
      ∙ append_assoc (together first) (together then) rest)
      ∙ h.read (more ++ ys) (together then ++ rest)
      ∙ ap (λ (l : List Event). zs ++ l) (k.read ys rest)
      ∙ sym (append_assoc zs done (filled_from false ys rest));
}

-- they have no parts, and nothing is read in their places
pub passes-parts : (xs ys : List Event) → NoParts xs → parts (xs ++ ys) ≡ parts ys
passes-parts [] ys h = refl
passes-parts (e ∷ xs) ys h =
    ap (λ (l : List Part). l ++ parts (xs ++ ys)) (part-none e.kind e.name (xs ++ ys) (kind-no_part e.name h.0))
    ∙ passes-parts xs ys h.1

pub passes-filled : (xs ys : List Event) (lists : List (List Event)) → NoLinks xs →
    filled_from false (xs ++ ys) lists ≡ xs ++ filled_from false ys lists
passes-filled [] ys lists h = refl
passes-filled (e ∷ xs) ys lists h =
    ap
    (λ (x : Option Link).
    cond (elim x [ None ↦ false | Some link ↦ true ])
    (first_list lists ++ filled_from true (xs ++ ys) (further_lists lists)) (e ∷ filled_from false (xs ++ ys) lists))
    h.0
    ∙ ap (λ (l : List Event). e ∷ l) (passes-filled xs ys lists h.1)

pub fill-same : (bytes : List ℕ) (xs : List Event) → NoLinks xs → NoParts xs → PartsRead bytes xs xs
fill-same bytes xs h k = record {
  own = [];
  each = tt;
  parts_are = λ ys. passes-parts xs ys k;
  read = λ ys more. passes-filled xs ys more h;
}

-- and so does what is around others
pub fill-around : (bytes : List ℕ) (name : Name) (p q : Point) (xs zs : List Event) → part_kind name ≡ None →
    PartsRead bytes xs zs → PartsRead bytes (around name p q xs) (around name p q zs)
fill-around bytes name p q xs zs other h =
    fill-append bytes (enter name p ∷ []) (enter name p ∷ []) (xs ++ exit name q ∷ []) (zs ++ exit name q ∷ [])
    (fill-same bytes (enter name p ∷ []) (refl, tt) (other, tt))
    (fill-append bytes xs zs (exit name q ∷ []) (exit name q ∷ []) h
    (fill-same bytes (exit name q ∷ []) (refl, tt) (other, tt)))

pub linked-filled : (bytes : List ℕ) (link : Link) (list : List Chunk) (ys : List Event) (more : List (List Event)) →
    filled_from false (linked n.Data link list ++ ys) (plain_chunks bytes list ++ more) ≡
    together (plain_chunks bytes list) ++ filled_from false ys more
linked-filled bytes link [] ys more = refl
linked-filled bytes link (chunk ∷ list) ys more =
    ap (λ (l : List Event). plain_chunk bytes chunk ++ l) (linked-filled bytes link list ys more)
    ∙ sym (append_assoc (plain_chunk bytes chunk) (together (plain_chunks bytes list)) (filled_from false ys more))

pub lists-together : (bytes : List ℕ) (kind : PartKind) (list : List Chunk) →
    together (plain_lists bytes (part_of kind list)) ≡ plain_chunks bytes list
lists-together bytes kind [] = refl
lists-together bytes kind (chunk ∷ list) = append-nil (plain_chunks bytes (chunk ∷ list))

pub lists-read : (bytes : List ℕ) (kind : PartKind) (list : List Chunk) → Fills list (plain_chunks bytes list) →
    EachRead (reads_plain bytes) (part_of kind list) (plain_lists bytes (part_of kind list))
lists-read bytes kind [] h = tt
lists-read bytes kind (chunk ∷ list) h = (h, refl, tt)

-- events in whose chunks others are read
abbrev pub Filled : List ℕ → List Chunk → List Event → List Event → Type 0
Filled bytes list inside out =
    (ys : List Event) (more : List (List Event)) →
    filled_from false (inside ++ ys) (plain_chunks bytes list ++ more) ≡ out ++ filled_from false ys more

-- a part whose chunks are in order is read
pub fill-part : (bytes : List ℕ) (name : Name) (kind : PartKind) (p q : Point) (list : List Chunk)
    (inside out : List Event) →
    part_kind name ≡ Some kind → Inside bytes kind list inside → Fills list (plain_chunks bytes list) →
    Filled bytes list inside out →
    PartsRead bytes (around name p q inside) (around name p q out)
fill-part bytes name kind p q list inside out is h fills into = record {
  own = part_of kind list;
  each = lists-read bytes kind list fills;
  parts_are = λ ys.
      ap (λ (es : List Event). part_at (enter name p).kind (part_kind name) es ++ parts es)
      (append_assoc inside (exit name q ∷ []) ys)
      ∙ ap
      (λ (x : Option PartKind).
      part_at (enter name p).kind x (inside ++ exit name q ∷ ys) ++ parts (inside ++ exit name q ∷ ys)) is
      ∙ ap (λ (l : List Event). part_of kind (chunks (pieces l)) ++ parts (inside ++ exit name q ∷ ys))
      (part-inside name kind q inside ys is h.outside)
      ∙ ap (λ (l : List Chunk). part_of kind l ++ parts (inside ++ exit name q ∷ ys)) h.has
      ∙ ap (λ (l : List Part). part_of kind list ++ l) (passes-parts inside (exit name q ∷ ys) h.outside);
  read = λ ys more.
      ap
      (λ (l : List Event).
      enter name p ∷ filled_from false l (together (plain_lists bytes (part_of kind list)) ++ more))
      (append_assoc inside (exit name q ∷ []) ys)
      ∙ ap (λ (l : List (List Event)). enter name p ∷ filled_from false (inside ++ exit name q ∷ ys) (l ++ more))
      (lists-together bytes kind list)
      ∙ ap (λ (l : List Event). enter name p ∷ l) (into (exit name q ∷ ys) more)
      ∙ ap (λ (l : List Event). enter name p ∷ l)
      (sym (append_assoc out (exit name q ∷ []) (filled_from false ys more)));
}

-- so it is with what is alone
pub filled-read : (bytes : List ℕ) (blocks events : List Event) → PartsRead bytes blocks events →
    plain_read bytes blocks ≡ events
filled-read bytes blocks events fill =
    let own : fill.own ≡
    parts blocks = sym (ap parts (sym (append-nil blocks)) ∙ fill.parts_are [] ∙ append-nil fill.own) in
    sym
    (sym (append-nil events)
    ∙ sym (fill.read [] [])
    ∙ ap (λ (l : List Event). filled_from false l (together (plain_lists bytes fill.own) ++ [])) (append-nil blocks)
    ∙ ap (λ (l : List (List Event)). filled_from false blocks l) (append-nil (together (plain_lists bytes fill.own)))
    ∙ ap (λ (l : List Part). filled_from false blocks (together (plain_lists bytes l))) own)
