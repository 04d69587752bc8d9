-- What is known of the ending of a line where it is, whatever its name: that of a blank line, or that of any other.
use Rattle.std.proofs.Common.{◌≡◌, ℕ, Bool, true, false, List, [], ◌∷◌, refl}
use Rattle.std.specs.Prelude.{not}
use Rattle.md_engine.specs.declared.event.Name.{Name}
use Rattle.md_engine.specs.declared.event.Name.TheVariants as n
use Rattle.md_engine.specs.declared.event.Point.{Point}
use Rattle.md_meaning.proofs.TextsLemmas.{Both, Ending, LineFeed, Return, ending_bytes}
use Rattle.md_containers.proofs.UnlistedLemmas.{Unlists, unlists-same}
use Rattle.md_events.specs.Events.Endings.{line_start}
use Rattle.md_events.specs.Events.Grammar.{Expression, blocks}
use Rattle.md_events.specs.Events.Nested.{pair}
use Rattle.md_events.specs.Events.Pieces.{may_cover}
use Rattle.md_events.specs.Events.Spelled.{IsEnding as EndingRole, IsQuiet, Role}
use Rattle.md_events.proofs.EndingsLemmas as ending
use Rattle.md_events.proofs.GrammarLemmas as grammar
use Rattle.md_events.proofs.NestedLemmas.{balanced-none}
use Rattle.md_events.proofs.SpelledLemmas.{Between, QuietOrEnding, Roles, Unmarked}
use Rattle.proof_frame.specs.EndingName.{ending_name}
use Rattle.proof_frame.proofs.ChunkFacts.{ending-order, ending-valid, line-ending}
use Rattle.proof_frame.proofs.GrammarFronts.{blocks_after}
use Rattle.proof_frame.proofs.LeafFacts.{spot_after}
use Rattle.proof_frame.proofs.LeafAllowed.{between-unlisted}
use Rattle.proof_frame.proofs.BetweenFacts.{between-pair}
use Rattle.proof_frame.proofs.PartFacts.{NoLinks, NoParts}
use Rattle.proof_frame.proofs.PartedFacts.{Still, sits-still}
use Rattle.proof_frame.proofs.PieceFacts.{PiecesValid, is_valid-pair}
use Rattle.md_events.proofs.FeedLines.{IsEnding}
use Rattle.proof_frame.proofs.SpanLemmas.{Nested_in, around-nested}
use Rattle.proof_frame.proofs.PiecesLemmas.{tiled-pair}
use Rattle.proof_frame.proofs.Stretch.{Stretch, stretch-same}
use Rattle.proof_frame.proofs.Unmarked.{inline-unmarked}

-- what holds of both names
pub ending-each : (P : Name → Type 0) → P n.BlankLineEnding → P n.LineEnding → (blank : Bool) → P (ending_name blank)
ending-each P h k true = h
ending-each P h k false = k

-- what the tree has of it
pub ended-roles : (P : Role → Type 0) (blank : Bool) (p q : Point) → P IsQuiet → P EndingRole →
    Roles P (pair (ending_name blank) p q)
ended-roles P blank p q quiet ending =
    ending-each (λ (name : Name). Roles P (pair name p q)) (quiet, (quiet, tt)) (ending, (ending, tt)) blank

-- it gives no quote a kind
pub ended-unmarked : (bytes : List ℕ) (blank : Bool) (p q : Point) → Unmarked bytes (pair (ending_name blank) p q)
ended-unmarked bytes blank p q =
    inline-unmarked bytes (pair (ending_name blank) p q) (ended-roles QuietOrEnding blank p q tt tt)

-- nothing of it is read later, and it is no text part
pub ending-unlinked : (blank : Bool) (p q : Point) → NoLinks (pair (ending_name blank) p q)
ending-unlinked blank p q = (refl, (refl, tt))

pub ending-no_parts : (blank : Bool) (p q : Point) → NoParts (pair (ending_name blank) p q)
ending-no_parts blank p q =
    ending-each (λ (name : Name). NoParts (pair name p q)) (refl, (refl, tt)) (refl, (refl, tt)) blank

-- It goes forward, and is over what its name says: whatever ends a line is one of either name.
pub ending-nested : (bytes : List ℕ) (name : Name) (p q : Point) → IsEnding bytes p q → Nested_in p q (pair name p q)
ending-nested bytes name p q is = around-nested name p q [] (balanced-none, (tt, ending-order bytes p q is))

blank-ending : (ending : Ending) → may_cover n.BlankLineEnding (ending_bytes ending) ≡ true
blank-ending LineFeed = refl
blank-ending Return = refl
blank-ending Both = refl

pub ending-named : (blank : Bool) (ending : Ending) → may_cover (ending_name blank) (ending_bytes ending) ≡ true
ending-named true ending = blank-ending ending
ending-named false ending = line-ending ending

pub ending-is_valid : (bytes : List ℕ) (blank : Bool) (p q : Point) → p.vs ≡ 0 → IsEnding bytes p q →
    PiecesValid bytes (pair (ending_name blank) p q)
ending-is_valid bytes blank p q whole is =
    is_valid-pair bytes (ending_name blank) p q
    (ending-valid bytes (ending_name blank) p q (ending-named blank) whole is)

-- So it is a stretch.
pub stretch-ended : (R : Role → Type 0) (bytes : List ℕ) (blank : Bool) (p q : Point) → R IsQuiet → R EndingRole →
    p.vs ≡ 0 → IsEnding bytes p q → Stretch R bytes p q (pair (ending_name blank) p q) (pair (ending_name blank) p q)
stretch-ended R bytes blank p q quiet ending whole is =
    let name = ending_name blank in
    stretch-same R bytes p q (pair name p q) (ended-roles R blank p q quiet ending) (ending-nested bytes name p q is)
    (tiled-pair name p q) (ending-is_valid bytes blank p q whole is) (ending-no_parts blank p q)
    (ending-unlinked blank p q) (between-pair bytes name p q)
    (sits-still bytes (pair name p q) (ended-roles Still blank p q tt tt))

-- After it blocks may be, as after one or not,
pub ending-word : (text : Expression) (blank : Bool) (p q : Point) (block : Bool) →
    grammar.Leads text (blocks_after block ∷ []) (blocks ∷ []) (pair (ending_name blank) p q)
ending-word text true p q true outer = refl
ending-word text true p q false outer = refl
ending-word text false p q true outer = refl
ending-word text false p q false outer = refl

pub ending-unlists : (text : Expression) (blank : Bool) (p q : Point) (block : Bool) →
    Unlists text (blocks_after block ∷ []) (blocks ∷ []) (pair (ending_name blank) p q)
ending-unlists text blank p q block =
    unlists-same text (blocks_after block ∷ []) (blocks ∷ []) (pair (ending_name blank) p q)
    (between-unlisted (pair (ending_name blank) p q) (ended-roles Between blank p q tt tt))
    (ending-word text blank p q block)

-- and it has the right name after a leaf with something on its last line, or with nothing.
pub ending-leads : (blank : Bool) (p q : Point) →
    ending.Leads (spot_after (not blank)) line_start (pair (ending_name blank) p q)
ending-leads true p q ys = refl
ending-leads false p q ys = refl
