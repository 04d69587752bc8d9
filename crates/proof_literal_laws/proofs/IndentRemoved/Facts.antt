-- What is known of what is on a line that loses columns of whitespace, inside of its leaf.
use Rattle.std.proofs.Common.{◌≡◌, ℕ, true, ◌||◌, not, List, [], ◌∷◌, drop, ap}
use Rattle.std.proofs.lemmas.Bool.{or_right}
use Rattle.md_engine.specs.declared.event.Name.{Name}
use Rattle.md_engine.specs.declared.event.Point.{Point}
use Rattle.md_meaning.specs.Rest.{Rest, lose}
use Rattle.md_meaning.proofs.TextsLemmas.{NoEnding}
use Rattle.md_outline.specs.LinesAllowed.{AtLine}
use Rattle.md_outline.specs.Roles.{is_recorded, is_unlisted}
use Rattle.md_events.specs.Events.Grammar.{Expression, plain_text, unread_text}
use Rattle.md_events.specs.Events.Pieces.{begins_in_tab, may_cover}
use Rattle.md_events.specs.Events.Spelled.{AsLine, LeafKind, OpenLeaf, TextRole, role}
use Rattle.md_events.proofs.EndingsLemmas.{stays-others}
use Rattle.md_events.proofs.GrammarLemmas.{Leads}
use Rattle.proof_frame.specs.RestLine.{rest_line}
use Rattle.proof_frame.specs.LineColumns.{columns_part, lost_line, part_over, past_columns}
use Rattle.proof_literal_laws.proofs.IndentRemoved.Sites.{records_rest, line_site, lost-passes}
use Rattle.proof_literal_laws.proofs.IndentRemoved.Names.{AreInside, is_inside, lost-inside}
use Rattle.proof_literal_laws.proofs.IndentRemoved.Parts.{inside-kind, inside-others, inside-part}
use Rattle.proof_frame.proofs.IndentRemoved.Placed.{lost-stretch}
use Rattle.proof_frame.proofs.IndentRemoved.Places.{FurtherAt, has-left}
use Rattle.proof_frame.proofs.IndentRemoved.Reads.{columns-quiet}
use Rattle.proof_frame.proofs.IndentRemoved.Shown.{left-clear, whole-clear}
use Rattle.proof_frame.proofs.PartedFacts.{clear, PrefixesAtLineStart}
use Rattle.proof_frame.proofs.PlainFacts.{AreKnown, known-append, known-around, known-none, plain-quiet}
use Rattle.proof_frame.proofs.LeafLines.Inside.{InsideFacts}
use Rattle.proof_frame.proofs.PartsFacts.{ReadsLeaf}
use Rattle.md_containers.specs.ItemsAllowed.{IsPart}
use Rattle.md_events.specs.Events.Nested.{pair}
use Rattle.proof_frame.proofs.Stretch.{Stretch}

-- what is asked of the name of the part over what is left of a line
pub record IsLineName (name : Name) : Type 0 where
  pub inside : is_inside name ≡ true
  pub recorded : role name ≡ TextRole AsLine
  pub cut : begins_in_tab name ≡ true
  pub over : (line : List ℕ) → NoEnding line → may_cover name line ≡ true
  pub sits : (bytes : List ℕ) (p q : Point) → PrefixesAtLineStart bytes (pair name p q)

-- It is a stretch.
pub line-stretch : (bytes : List ℕ) (name : Name) (lost : ℕ) (r : Rest) (p q : Point) → IsLineName name →
    FurtherAt bytes r p q →
    Stretch IsPart bytes p q (lost_line name lost r p q) (lost_line name lost r p q)
line-stretch bytes name lost r p q named is =
    lost-stretch IsPart bytes name lost r p q tt
    (record {
      role_is = inside-part name named.inside;
      no_part = inside-kind name named.inside;
      parted = named.sits bytes;
    }) named.cut (named.over (rest_line (lose lost r))) is

-- An outline knows its names.
lost-known : (bytes : List ℕ) (name : Name) (lost : ℕ) (r : Rest) (p q : Point) → IsLineName name →
    FurtherAt bytes r p q → AreKnown bytes (lost_line name lost r p q)
lost-known bytes name lost r p q named is =
    known-append bytes (columns_part lost r p) (part_over name (rest_line (lose lost r)) at q)
    (plain-quiet bytes (columns_part lost r p) (columns-quiet lost r p)).known (over (rest_line (lose lost r)))
  where
    at : Point
    at = past_columns lost r p

    recorded : (x : Point) → clear bytes x ≡ true → (not (is_recorded (role name)) || clear bytes x) ≡ true
    recorded x h = or_right (not (is_recorded (role name))) (clear bytes x) h

    begin : clear bytes (past_columns lost r p) ≡ true
    begin =
        left-clear bytes (drop q.index bytes) (lose lost r) (past_columns lost r p)
        (has-left bytes lost r p q is).valid

    over : (line : List ℕ) → AreKnown bytes (part_over name line (past_columns lost r p) q)
    over [] = known-none bytes
    over (b ∷ bs) =
        known-around bytes name at q [] (ap is_unlisted named.recorded) (recorded at begin)
        (recorded q (whole-clear bytes q is.at.end_whole)) (known-none bytes)

-- All of it, before which this is left of the grammar, and that after it; it is read from this leaf to that.
pub lost-facts : (bytes : List ℕ) (name : Name) (kind : LeafKind) (lost : ℕ) (r : Rest) (p q : Point)
    (x left : Expression) (from to : OpenLeaf) →
    IsLineName name → FurtherAt bytes r p q →
    ((text : Expression) → Leads text (x ∷ []) (left ∷ []) (lost_line name lost r p q)) →
    ReadsLeaf bytes from to (lost_line name lost r p q) →
    InsideFacts bytes p q x left from to (AtLine kind) (line_site kind (records_rest (rest_line (lose lost r))))
    (lost_line name lost r p q) (lost_line name lost r p q)
lost-facts bytes name kind lost r p q x left from to named is leads reads =
    let es = lost_line name lost r p q in
    let all : AreInside (lost_line name lost r p q) = lost-inside name lost r p q named.inside in
    record {
      parts = record {
        stretch = line-stretch bytes name lost r p q named is;
        unread_word = leads unread_text;
        word = leads plain_text;
        unread_stays = stays-others es (inside-others es all);
        stays = stays-others es (inside-others es all);
        reads = reads;
      };
      plain = λ first. record {
        known = lost-known bytes name lost r p q named is;
        lines = lost-passes bytes kind name lost r p q named.recorded;
      };
    }
