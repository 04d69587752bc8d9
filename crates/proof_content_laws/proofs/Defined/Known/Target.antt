-- What is known of the destination of a definition.
use Rattle.std.proofs.Common.{◌≡◌, ◌≢◌, ℕ, Bool, true, false, cond, List, [], ◌∷◌, ◌++◌, refl, sym, ap, ◌∙◌, subst}
use Rattle.std.proofs.Common.{subst₂}
use Rattle.std.specs.Prelude.{None}
use Rattle.md_engine.specs.declared.event.Event.{Event}
use Rattle.md_engine.specs.declared.event.Name.TheVariants as n
use Rattle.md_engine.specs.declared.event.Point.{Point}
use Rattle.md_events.specs.Events.Grammar.{Expression, Nothing, following, inside, plain_text}
use Rattle.md_events.specs.Events.Inline.{pair_unless_empty, plain_chunk}
use Rattle.md_events.specs.Events.Nested.{around, pair}
use Rattle.md_events.specs.Events.Places.{same_place}
use Rattle.md_events.specs.Events.Spelled.{OpenLeaf}
use Rattle.md_events.proofs.EndingsLemmas.{Filling, Stays, filling-append, stays-append, stays-others}
use Rattle.md_events.proofs.InlineLemmas.{same-refl}
use Rattle.md_events.proofs.PlacesLemmas.{apart-later}
use Rattle.proof_frame.proofs.FilledAround.{around-fills}
use Rattle.proof_content_laws.proofs.Defined.Known.Enclosed.{IsMarkName, parts-enclosed}
use Rattle.proof_content_laws.proofs.Defined.Form.{IsByte, IsRun, IsTarget, Literal, Raw, Target, string_done}
use Rattle.proof_content_laws.proofs.Defined.Form.{string_unread, target_by, target_text}
use Rattle.proof_content_laws.proofs.Defined.Known.Left.{so_far}
use Rattle.proof_content_laws.proofs.Defined.Known.Marks.{run-over, some-long}
use Rattle.proof_frame.proofs.PartsFacts.{IsPartName, PartsFacts, around-reads, parts-around, parts-none}
use Rattle.proof_content_laws.proofs.Defined.Strings.Lines.{run-end}
use Rattle.proof_frame.proofs.PieceFacts.{Starts}

-- what is known of its text, wherever that is
abbrev pub StringParts : List ℕ → List (List ℕ) → Type 0
StringParts bytes label =
    (a b : Point) (text : List ℕ) (x : Expression) → a.vs ≡ 0 → text ≢ [] → IsRun bytes text a b →
    PartsFacts bytes a b x (following n.DefinitionDestinationString x) (so_far label [] None) (so_far label text None)
    (string_unread a b) (string_done bytes a b)

raw-name : IsPartName n.DefinitionDestinationRaw (inside plain_text n.DefinitionDestinationRaw)
raw-name = record {
  no_part = refl;
  part = tt;
  still = tt;
  begins = λ text. refl;
  enters = λ p. refl;
  exits = λ p. refl;
}

literal-name : IsPartName n.DefinitionDestinationLiteral (inside plain_text n.DefinitionDestinationLiteral)
literal-name = record {
  no_part = refl;
  part = tt;
  still = tt;
  begins = λ text. refl;
  enters = λ p. refl;
  exits = λ p. refl;
}

target-name : IsPartName n.DefinitionDestination (inside plain_text n.DefinitionDestination)
target-name = record {
  no_part = refl;
  part = tt;
  still = tt;
  begins = λ text. refl;
  enters = λ p. refl;
  exits = λ p. refl;
}

literal-mark : IsMarkName n.DefinitionDestinationLiteralMarker
literal-mark = record { quiet = tt; others = λ p q. refl; ends = λ text. refl }

-- what is left after the first mark
abbrev literal_text : Expression
literal_text =
    following n.DefinitionDestinationLiteralMarker (inside plain_text n.DefinitionDestinationLiteral)

-- The whole, around what is between its marks or is its text.

abbrev raw_events : Point → Point → List Event → List Event
raw_events p q es = around n.DefinitionDestination p q (around n.DefinitionDestinationRaw p q es)

abbrev literal_inside : Point → Point → Point → Point → List Event → List Event
literal_inside p a b q es =
    pair n.DefinitionDestinationLiteralMarker p a ++ es ++ pair n.DefinitionDestinationLiteralMarker b q

literal-parts : (bytes : List ℕ) (p a b q : Point) (x y : Expression) (from to : OpenLeaf) (us ds : List Event) →
    IsByte bytes 60 p a → IsByte bytes 62 b q → following n.DefinitionDestinationLiteralMarker y ≡ Nothing →
    PartsFacts bytes a b literal_text y from to us ds →
    PartsFacts bytes p q x (following n.DefinitionDestination x) from to
    (around n.DefinitionDestination p q (around n.DefinitionDestinationLiteral p q (literal_inside p a b q us)))
    (around n.DefinitionDestination p q (around n.DefinitionDestinationLiteral p q (literal_inside p a b q ds)))
literal-parts bytes p a b q x y from to us ds opens closes left h =
    parts-around bytes n.DefinitionDestination p q x (inside plain_text n.DefinitionDestination) Nothing from to from to
    (around n.DefinitionDestinationLiteral p q (literal_inside p a b q us))
    (around n.DefinitionDestinationLiteral p q (literal_inside p a b q ds)) target-name refl refl refl literal
    (around-reads bytes n.DefinitionDestination p q from to
    (around n.DefinitionDestinationLiteral p q (literal_inside p a b q ds)) tt literal.reads)
  where
    marked :
        PartsFacts bytes p q (inside plain_text n.DefinitionDestinationLiteral) Nothing from to
        (literal_inside p a b q us) (literal_inside p a b q ds)
    marked =
        subst
        (λ (z : Expression).
        PartsFacts bytes p q (inside plain_text n.DefinitionDestinationLiteral) z from to (literal_inside p a b q us)
        (literal_inside p a b q ds)) left
        (parts-enclosed bytes n.DefinitionDestinationLiteralMarker 60 62 p a b q
        (inside plain_text n.DefinitionDestinationLiteral) y from to us ds literal-mark
        (record { over = refl; low = refl }) (record { over = refl; low = refl }) opens closes h)

    literal :
        PartsFacts bytes p q (inside plain_text n.DefinitionDestination) Nothing from to
        (around n.DefinitionDestinationLiteral p q (literal_inside p a b q us))
        (around n.DefinitionDestinationLiteral p q (literal_inside p a b q ds))
    literal =
        parts-around bytes n.DefinitionDestinationLiteral p q (inside plain_text n.DefinitionDestination)
        (inside plain_text n.DefinitionDestinationLiteral) Nothing from to from to (literal_inside p a b q us)
        (literal_inside p a b q ds) literal-name refl refl refl marked
        (around-reads bytes n.DefinitionDestinationLiteral p q from to (literal_inside p a b q ds) tt marked.reads)

raw-parts : (bytes : List ℕ) (p q : Point) (x : Expression) (from to : OpenLeaf) (us ds : List Event) →
    Starts us → Starts ds →
    PartsFacts bytes p q (inside plain_text n.DefinitionDestinationRaw) Nothing from to us ds →
    PartsFacts bytes p q x (following n.DefinitionDestination x) from to (raw_events p q us) (raw_events p q ds)
raw-parts bytes p q x from to us ds first starts h =
    parts-around bytes n.DefinitionDestination p q x (inside plain_text n.DefinitionDestination) Nothing from to from to
    (around n.DefinitionDestinationRaw p q us) (around n.DefinitionDestinationRaw p q ds) target-name refl refl refl raw
    (around-reads bytes n.DefinitionDestination p q from to (around n.DefinitionDestinationRaw p q ds) tt raw.reads)
  where
    raw :
        PartsFacts bytes p q (inside plain_text n.DefinitionDestination) Nothing from to
        (around n.DefinitionDestinationRaw p q us) (around n.DefinitionDestinationRaw p q ds)
    raw =
        parts-around bytes n.DefinitionDestinationRaw p q (inside plain_text n.DefinitionDestination)
        (inside plain_text n.DefinitionDestinationRaw) Nothing from to from to us ds raw-name first starts refl h
        (around-reads bytes n.DefinitionDestinationRaw p q from to ds tt h.reads)

pub target-parts : (bytes : List ℕ) (p q : Point) (x : Expression) (label : List (List ℕ)) (t : Target) →
    StringParts bytes label → IsTarget bytes p q t →
    PartsFacts bytes p q x (following n.DefinitionDestination x) (so_far label [] None)
    (so_far label (target_text t) None) (target_by string_unread t) (target_by (string_done bytes) t)
target-parts bytes p q x label (Raw a b text) string is =
    subst₂
    (λ (u v : Point).
    PartsFacts bytes p q x (following n.DefinitionDestination x) (so_far label [] None) (so_far label text None)
    (raw_events u v (string_unread u v)) (raw_events u v (string_done bytes u v))) (sym is.0) (sym is.1)
    (raw-parts bytes p q x (so_far label [] None) (so_far label text None) (string_unread p q) (string_done bytes p q)
    refl refl (string p q text (inside plain_text n.DefinitionDestinationRaw) is.2 is.3 is.4))
target-parts bytes p q x label (Literal o a b e []) string is =
    subst₂
    (λ (u v : Point).
    PartsFacts bytes p q x (following n.DefinitionDestination x) (so_far label [] None) (so_far label [] None)
    (around n.DefinitionDestination u v (around n.DefinitionDestinationLiteral u v (literal_inside u a b v [])))
    (around n.DefinitionDestination u v (around n.DefinitionDestinationLiteral u v (literal_inside u a b v []))))
    (sym is.0) (sym is.1)
    (literal-parts bytes p a b q x literal_text (so_far label [] None) (so_far label [] None) [] [] is.2 is.4 refl
    (subst
    (λ (e : Point). PartsFacts bytes a e literal_text literal_text (so_far label [] None) (so_far label [] None) [] [])
    (sym is.3.end) (parts-none bytes a literal_text (so_far label [] None))))
target-parts bytes p q x label (Literal o a b e (c ∷ cs)) string is =
    subst₂
    (λ (u v : Point).
    PartsFacts bytes p q x (following n.DefinitionDestination x) (so_far label [] None) (so_far label (c ∷ cs) None)
    (around n.DefinitionDestination u v
    (around n.DefinitionDestinationLiteral u v (literal_inside u a b v (string_unread a b))))
    (around n.DefinitionDestination u v
    (around n.DefinitionDestinationLiteral u v (literal_inside u a b v (string_done bytes a b))))) (sym is.0) (sym is.1)
    (literal-parts bytes p a b q x (following n.DefinitionDestinationString literal_text) (so_far label [] None)
    (so_far label (c ∷ cs) None) (string_unread a b) (string_done bytes a b) is.2 is.4 refl
    (string a b (c ∷ cs) literal_text is.2.1.whole (λ e. cc) is.3))

-- It fills the line on which it ends.

-- a text on one line is one piece
pub chunk-one : (bytes text : List ℕ) (p q : Point) → text ≢ [] → IsRun bytes text p q →
    plain_chunk bytes (record { first = p; after = q }) ≡ pair n.Data p q
chunk-one bytes text p q some run =
    ap (λ (e : Point). pair_unless_empty n.Data p e ++ pair_unless_empty n.LineEnding e q)
    (run-end bytes text p q run)
    ∙ ap (λ (x : Bool). cond x [] (pair n.Data p q) ++ pair_unless_empty n.LineEnding q q) apart
    ∙ ap (λ (x : Bool). pair n.Data p q ++ cond x [] (pair n.LineEnding q q)) (same-refl q)
  where
    apart : same_place p q ≡ false
    apart = apart-later p q (run-over bytes text p q (some-long text some) run).some

string-fills : (bytes text : List ℕ) (p q : Point) → text ≢ [] → IsRun bytes text p q → Filling (string_done bytes p q)
string-fills bytes text p q some run =
    subst (λ (es : List Event). Filling (around n.DefinitionDestinationString p q es))
    (sym (chunk-one bytes text p q some run)) (λ from ys. refl)

raw-fills : (p q : Point) (es : List Event) → Filling es → Filling (raw_events p q es)
raw-fills p q es h =
    around-fills n.DefinitionDestination p q (around n.DefinitionDestinationRaw p q es) refl refl
    (around-fills n.DefinitionDestinationRaw p q es refl refl h)

literal-fills : (p a b q : Point) (es : List Event) → Stays es →
    Filling
    (around n.DefinitionDestination p q (around n.DefinitionDestinationLiteral p q (literal_inside p a b q es)))
literal-fills p a b q es h =
    around-fills n.DefinitionDestination p q (around n.DefinitionDestinationLiteral p q (literal_inside p a b q es))
    refl refl
    (around-fills n.DefinitionDestinationLiteral p q (literal_inside p a b q es) refl refl
    (filling-append (pair n.DefinitionDestinationLiteralMarker p a ++ es)
    (pair n.DefinitionDestinationLiteralMarker b q)
    (stays-append (pair n.DefinitionDestinationLiteralMarker p a) es
    (stays-others (pair n.DefinitionDestinationLiteralMarker p a) refl) h) (λ from ys. refl)))

pub target-fills : (bytes : List ℕ) (p q : Point) (t : Target) → IsTarget bytes p q t →
    Filling (target_by string_unread t) × Filling (target_by (string_done bytes) t)
target-fills bytes p q (Raw a b text) is = (
  raw-fills a b (string_unread a b) (λ from ys. refl),
  raw-fills a b (string_done bytes a b)
      (subst₂ (λ (u v : Point). Filling (string_done bytes u v)) (sym is.0) (sym is.1)
      (string-fills bytes text p q is.3 is.4)),
)
target-fills bytes p q (Literal o a b e []) is =
    (literal-fills o a b e [] (λ from. (from, λ ys. refl)), literal-fills o a b e [] (λ from. (from, λ ys. refl)))
target-fills bytes p q (Literal o a b e (c ∷ cs)) is = (
  literal-fills o a b e (string_unread a b) (λ from. (true, λ ys. refl)),
  literal-fills o a b e (string_done bytes a b) (λ from. (true, string-fills bytes (c ∷ cs) a b (λ e. cc) is.3 from)),
)
