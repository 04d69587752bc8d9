-- Which parts an inline layer is asked for: the text parts of a document, each once, and none but these.
--
-- Events that begin no part may be before those of a block list, as the byte order mark does: nothing is asked for
-- them, and they stay as they are.
use Rattle.std.proofs.Common.{◌≡◌, ℕ, suc, inl, Bool, true, List, [], ◌∷◌, ◌++◌, length, refl, ap, sym, ◌∙◌}
use Rattle.std.proofs.Common.{subst, append_assoc}
use Rattle.std.specs.Prelude.{Option, Some, None, is_none}
use Rattle.std.specs.List.{list_all}
use Rattle.std.proofs.lemmas.Bool.{and_parts}
use Rattle.md_engine.specs.declared.event.Content.{Content}
use Rattle.md_engine.specs.declared.event.Event.{Event}
use Rattle.md_events.specs.declared.inline.Chunk.{Chunk}
use Rattle.md_events.specs.Substituted.{Asked, EachAsked, Readings, Substituted, chunk_of, stays, wanted}
use Rattle.md_events.specs.TextPart.{AreBlocks, Document, IsTextPart, text_kind, wants_text}
use Rattle.md_events.specs.Events.Inline.{Part}
use Rattle.md_events.specs.Events.Tiles.{parts}
use Rattle.md_events.proofs.AskedLemmas.{AskedBy, asked-event}
use Rattle.md_events.proofs.PartsLemmas.{EachPart}
use Rattle.md_events.proofs.PartWalks.{Walk, Ends, Stays, Begins, IsContinued, unlinked-unwanted, walk-blocks}
use Rattle.md_events.proofs.SubstitutedLemmas.{SubstitutedBy}

-- Event by event.

-- an event that stays asks for nothing
asked-more : (wants : Content → Bool) (asked : Asked) (chunks : ℕ) (e : Event) (es : List Event) →
    wanted wants e ≡ None → EachAsked wants asked chunks es → EachAsked wants asked chunks (e ∷ es)
asked-more wants asked chunks e [] none h = tt
asked-more wants asked chunks e (f ∷ es) none h = subst (AskedBy wants asked chunks e f es) (sym none) h

-- and stays
pub substituted-more : (wants : Content → Bool) (reads : Readings) (left : List Event) (chunks : ℕ) (e : Event)
    (es out : List Event) →
    wanted wants e ≡ None → Substituted wants reads left chunks es out →
    Substituted wants reads left chunks (e ∷ es) (e ∷ out)
substituted-more wants reads left chunks e [] out none s = ap (λ (list : List Event). e ∷ list) s
substituted-more wants reads left chunks e (f ∷ es) out none s =
    subst (SubstitutedBy wants reads left chunks e f es (e ∷ out)) (sym none) (out, refl, s)

stays-unwanted : (wants : Content → Bool) (e : Event) → stays wants e ≡ true → wanted wants e ≡ None
stays-unwanted wants e h = go (wanted wants e) h
  where
    go : (o : Option Content) → is_none o ≡ true → o ≡ None
    go None h = refl
    go (Some held) h = cc

-- After events that stay.

pub asked-following : (wants : Content → Bool) (asked : Asked) (front items : List Event) →
    list_all (stays wants) front ≡ true → EachAsked wants asked 0 (front ++ items) → EachAsked wants asked 0 items
asked-following wants asked [] items stay h = h
asked-following wants asked (e ∷ front) items stay h =
    let both : (stays wants e ≡ true) ×
    (list_all (stays wants) front ≡ true) = and_parts (stays wants e) (list_all (stays wants) front) stay in
    asked-following wants asked front items both.1
    (asked-event wants asked 0 e (front ++ items) (inl (stays-unwanted wants e both.0)) h)

pub substituted-following : (wants : Content → Bool) (reads : Readings) (front items body : List Event) →
    list_all (stays wants) front ≡ true → Substituted wants reads [] 0 items body →
    Substituted wants reads [] 0 (front ++ items) (front ++ body)
substituted-following wants reads [] items body stay s = s
substituted-following wants reads (e ∷ front) items body stay s =
    let both : (stays wants e ≡ true) ×
    (list_all (stays wants) front ≡ true) = and_parts (stays wants e) (list_all (stays wants) front) stay in
    substituted-more wants reads [] 0 e (front ++ items) (front ++ body) (stays-unwanted wants e both.0)
    (substituted-following wants reads front items body both.1 s)

-- The parts of a block list.

-- what may be asked for, where it may be for each of these parts
abbrev AskedFor : (Part → Type 0) → Asked
AskedFor P held chunks = P (record { kind = text_kind held; chunks = chunks })

asked-walk : (P : Part → Type 0) {left : List Chunk} {es : List Event} {parts : List Part} → Walk left es parts →
    EachPart P parts → EachAsked wants_text (AskedFor P) (length left) es
asked-walk P Ends each = tt
asked-walk P (Stays {e = e} {es = es} {left = left} unlinked outer walk) each =
    asked-more wants_text (AskedFor P) (length left) e es (unlinked-unwanted wants_text e unlinked)
    (asked-walk P walk each)
asked-walk P (Begins {e = e} {f = f} {es = es} {left = left} {held = held} is listed walk) each =
    subst (AskedBy wants_text (AskedFor P) 0 e f es) (sym is.holds)
    (subst
    (λ (list : List Chunk).
    AskedFor P held (chunk_of e f ∷ list) × EachAsked wants_text (AskedFor P) (length list) es) (sym listed)
    (each.0, asked-walk P walk each.1))
asked-walk P (IsContinued {e = e} {f = f} {es = es} {left = left} is walk) each =
    subst (AskedBy wants_text (AskedFor P) (suc (length left)) e f es) (sym is.holds) (asked-walk P walk each)

-- each part of a list is among them
each-among : (all before rest : List Part) → all ≡ before ++ rest →
    EachPart (λ (part : Part). (front following : List Part) × (all ≡ front ++ part ∷ following)) rest
each-among all before [] is = tt
each-among all before (part ∷ rest) is = (
  (before, rest, is),
  each-among all (before ++ part ∷ []) rest (is ∙ sym (append_assoc before (part ∷ []) rest)),
)

each-map : (P Q : Part → Type 0) → ((part : Part) → P part → Q part) → (parts : List Part) → EachPart P parts →
    EachPart Q parts
each-map P Q f [] each = tt
each-map P Q f (part ∷ parts) each = (f part each.0, each-map P Q f parts each.1)

-- A layer is asked for the text parts of the document alone.
pub asked-blocks : (document : Document) (blocks : List Event) → AreBlocks document blocks →
    EachAsked wants_text (λ content chunks. IsTextPart document (record { kind = text_kind content; chunks = chunks }))
    0 blocks
asked-blocks document blocks are =
    asked-walk (IsTextPart document) (walk-blocks document.bytes blocks are.list)
    (each-map (λ (part : Part). (front following : List Part) × (parts blocks ≡ front ++ part ∷ following))
    (IsTextPart document)
    (λ part among. record {
      blocks = blocks;
      are = are;
      before = among.0;
      following = among.1;
      among = among.2;
    })
    (parts blocks) (each-among (parts blocks) [] (parts blocks) refl))
