-- The lines of a text of a definition keep the grammar, before they are read and once they are; their endings are those
-- of a leaf, and they are parts of one.
use Rattle.std.proofs.Common.{◌≡◌, ℕ, Bool, true, false, cond, List, [], ◌∷◌, ◌++◌, refl, ap, sym, subst}
use Rattle.md_engine.specs.declared.event.Event.{Event}
use Rattle.md_engine.specs.declared.event.Name.TheVariants as n
use Rattle.md_engine.specs.declared.event.Point.{Point}
use Rattle.md_link_definitions.specs.Chunks.{string_link}
use Rattle.md_events.specs.declared.inline.Chunk.{Chunk}
use Rattle.md_events.specs.Events.Grammar.{Expression, following, plain_text, unread_text}
use Rattle.md_events.specs.Events.Inline.{pair_unless_empty, plain_chunk}
use Rattle.md_events.specs.Events.Nested.{enter_link, exit, pair}
use Rattle.md_events.proofs.EndingsLemmas.{Stays, stays-append, stays-others}
use Rattle.md_events.proofs.GrammarLemmas.{IsWord, Leads, leads-append, leads-pair, leads-unless, maybe, word-following}
use Rattle.md_events.proofs.PlacesLemmas.{apart-later}
use Rattle.proof_frame.proofs.ChunkFacts.{chunk-word, text_left}
use Rattle.proof_content_laws.proofs.Defined.Form.{IsRun, Strand, strand_done, strand_unread}
use Rattle.proof_content_laws.proofs.Defined.Strings.Lines.{AreLines, Last, More, NoneLeft, ended-end}
use Rattle.proof_content_laws.proofs.Defined.Strings.Places.{HasLine}
use Rattle.proof_frame.proofs.FrontValid.{fronts-others}
use Rattle.proof_frame.proofs.GrammarFronts.{front-stays}
use Rattle.md_events.proofs.FeedLines.{IsEnding}
use Rattle.proof_content_laws.proofs.Text.ChunkStays.{chunk-stays}
use Rattle.proof_content_laws.proofs.Text.Unread.{ending-grows, unread_rest}

-- Before they are read, a chunk is a line, and prefixes may be after the first.

-- after the first chunk
rest-word : (bytes : List ℕ) (p q : Point) (s : Strand) → AreLines bytes p q s →
    IsWord unread_text (unread_rest ∷ []) (strand_unread s)
rest-word bytes q _ _ (NoneLeft _ whole) = record { left = unread_rest; leads = λ outer. refl; ends = refl }
rest-word bytes p q _ (Last _ _ text some run) = record { left = unread_rest; leads = λ outer. refl; ends = refl }
rest-word bytes p q _ (More _ e b r _ text front s run break more) =
    let chunk : List Event = enter_link n.Data p string_link ∷ exit n.Data b ∷ [] in
    word-following unread_text (unread_rest ∷ []) (unread_rest ∷ []) (chunk ++ front) (strand_unread s)
    (leads-append unread_text (unread_rest ∷ []) (unread_rest ∷ []) (unread_rest ∷ []) chunk front (λ outer. refl)
    (front-stays unread_text unread_rest bytes [] b r front (refl, refl) break.front_is refl))
    (rest-word bytes r q s more)

pub unread-word : (bytes : List ℕ) (p q : Point) (s : Strand) → HasLine s → AreLines bytes p q s →
    IsWord unread_text (unread_text ∷ []) (strand_unread s)
unread-word bytes q _ _ has (NoneLeft _ whole) = absurd has
unread-word bytes p q _ has (Last _ _ text some run) = record {
  left = unread_rest;
  leads = λ outer. refl;
  ends = refl;
}
unread-word bytes p q _ has (More _ e b r _ text front s run break more) =
    let chunk : List Event = enter_link n.Data p string_link ∷ exit n.Data b ∷ [] in
    word-following unread_text (unread_text ∷ []) (unread_rest ∷ []) (chunk ++ front) (strand_unread s)
    (leads-append unread_text (unread_text ∷ []) (unread_rest ∷ []) (unread_rest ∷ []) chunk front (λ outer. refl)
    (front-stays unread_text unread_rest bytes [] b r front (refl, refl) break.front_is refl))
    (rest-word bytes r q s more)

-- Once they are read.

-- a line with its ending
ended-leads : (bytes text : List ℕ) (first : Bool) (p e b : Point) → IsRun bytes text p e → IsEnding bytes e b →
    Leads plain_text (text_left first ∷ []) (text_left false ∷ []) (plain_chunk bytes (record { first = p; after = b }))
ended-leads bytes text first p e b run ending =
    subst
    (λ (x : Point). Leads plain_text (text_left first ∷ []) (text_left false ∷ [])
    (pair_unless_empty n.Data p x ++ pair_unless_empty n.LineEnding x b))
    (sym (ended-end bytes text p e b run ending))
    (subst
    (λ (es : List Event).
    Leads plain_text (text_left first ∷ []) (text_left false ∷ [])
    (pair_unless_empty n.Data p e ++ es))
    (sym apart) leads)
  where
    mid : Bool → Expression
    mid line = maybe line n.Data (text_left first)

    apart : pair_unless_empty n.LineEnding e b ≡ pair n.LineEnding e b
    apart =
        ap (λ (x : Bool). cond x [] (pair n.LineEnding e b)) (apart-later e b (ending-grows bytes e b ending))

    same : (first line : Bool) → following n.LineEnding (maybe line n.Data (text_left first)) ≡ text_left false
    same true true = refl
    same true false = refl
    same false true = refl
    same false false = refl

    leads : Leads plain_text (text_left first ∷ []) (text_left false ∷ [])
        (pair_unless_empty n.Data p e ++ pair n.LineEnding e b)
    leads =
        let line = leads-unless plain_text (text_left first) n.Data p e refl in
        subst
        (λ (x : Expression).
        Leads plain_text (text_left first ∷ []) (x ∷ []) (pair_unless_empty n.Data p e ++ pair n.LineEnding e b))
        (same first line.0)
        (leads-append plain_text (text_left first ∷ []) (mid line.0 ∷ []) (following n.LineEnding (mid line.0) ∷ [])
        (pair_unless_empty n.Data p e) (pair n.LineEnding e b) line.1
        (leads-pair plain_text (mid line.0) n.LineEnding e b refl))

none-word : (first : Bool) → IsWord plain_text (text_left first ∷ []) []
none-word true = record { left = text_left true; leads = λ outer. refl; ends = refl }
none-word false = record { left = text_left false; leads = λ outer. refl; ends = refl }

pub done-word : (bytes : List ℕ) (first : Bool) (p q : Point) (s : Strand) → AreLines bytes p q s →
    IsWord plain_text (text_left first ∷ []) (strand_done bytes s)
done-word bytes first q _ _ (NoneLeft _ whole) = none-word first
done-word bytes first p q _ (Last _ _ text some run) = chunk-word bytes first (record { first = p; after = q })
done-word bytes first p q _ (More _ e b r _ text front s run break more) =
    let chunk : List Event = plain_chunk bytes (record { first = p; after = b }) in
    word-following plain_text (text_left first ∷ []) (text_left false ∷ []) (chunk ++ front) (strand_done bytes s)
    (leads-append plain_text (text_left first ∷ []) (text_left false ∷ []) (text_left false ∷ []) chunk front
    (ended-leads bytes text first p e b run break.ending)
    (front-stays plain_text (text_left false) bytes [] b r front (refl, refl) break.front_is refl))
    (done-word bytes false r q s more)

-- Their endings.

pub unread-stays : (bytes : List ℕ) (p q : Point) (s : Strand) → AreLines bytes p q s → Stays (strand_unread s)
unread-stays bytes q _ _ (NoneLeft _ whole) = λ from. (from, λ ys. refl)
unread-stays bytes p q _ (Last _ _ text some run) = λ from. (true, λ ys. refl)
unread-stays bytes p q _ (More _ e b r _ text front s run break more) =
    let chunk : List Event = enter_link n.Data p string_link ∷ exit n.Data b ∷ [] in
    stays-append (chunk ++ front) (strand_unread s)
    (stays-append chunk front (λ from. (true, λ ys. refl))
    (stays-others front (fronts-others bytes [] b r front break.front_is)))
    (unread-stays bytes r q s more)

pub done-stays : (bytes : List ℕ) (p q : Point) (s : Strand) → AreLines bytes p q s → Stays (strand_done bytes s)
done-stays bytes q _ _ (NoneLeft _ whole) = λ from. (from, λ ys. refl)
done-stays bytes p q _ (Last _ _ text some run) = chunk-stays bytes (record { first = p; after = q })
done-stays bytes p q _ (More _ e b r _ text front s run break more) =
    let chunk : Chunk = record { first = p; after = b } in
    stays-append (plain_chunk bytes chunk ++ front) (strand_done bytes s)
    (stays-append (plain_chunk bytes chunk) front (chunk-stays bytes chunk)
    (stays-others front (fronts-others bytes [] b r front break.front_is)))
    (done-stays bytes r q s more)
