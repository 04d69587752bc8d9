-- What is known of all that is before a line: the prefixes of its containers, and the begins of those that open on it.
use Rattle.std.proofs.Common.{◌≡◌, ◌≢◌, ℕ, true, List, [], ◌∷◌, ◌++◌, refl, ap, ◌∙◌, append_assoc}
use Rattle.std.specs.Prelude.{Some}
use Rattle.std.proofs.lemmas.Bool.{and_from}
use Rattle.md_engine.specs.declared.event.Event.{Event}
use Rattle.md_engine.specs.declared.event.Name.{Name}
use Rattle.md_engine.specs.declared.event.Point.{Point}
use Rattle.md_events.specs.Events.Nested.{enter}
use Rattle.md_meaning.specs.State.{Container}
use Rattle.md_events.proofs.InlineLemmas.{same-refl}
use Rattle.proof_frame.proofs.PiecesLemmas.{Covered, tiled-append, tiled-none, tiled-within, pieces-before}
use Rattle.proof_frame.proofs.FrontFacts.{Following, Begins, LinePrefix, Proceeds}
use Rattle.proof_frame.specs.ContainerNames.{container_name}
use Rattle.md_events.specs.declared.inline.PartKind.{PartKind}
use Rattle.proof_frame.proofs.PartsValid.{Inside, inside-append}
use Rattle.proof_frame.proofs.ContainerNames.{container-facts}
use Rattle.md_events.specs.Events.Pieces.{are_valid_pieces}
use Rattle.proof_frame.proofs.PieceFacts.{PiecesValid, is_valid-append, is_valid-none}
use Rattle.proof_frame.proofs.PrefixFacts.{Opens, Continues}
use Rattle.md_outline.specs.Between.{is_between}
use Rattle.proof_frame.proofs.BetweenFacts.{AreBetween, between-append, between-more}
use Rattle.md_events.specs.Events.Spelled.{IsPrefix, IsQuiet, IsQuoteMarker, Role, role}
use Rattle.md_outline.specs.Outlined.{OpenTextSpan, are_parted}
use Rattle.proof_frame.proofs.PlainFacts.{ArePlain, Untold, plain-append, plain-nil, plain-untold}
use Rattle.proof_frame.proofs.PartedFacts.{PrefixesAtLineStart, Still, clear, clear-between, sits-append, sits-still}
use Rattle.proof_frame.proofs.FrontLemmas.{fronts-balanced, fronts-spans}
use Rattle.proof_frame.proofs.FrontNames.{fronts-no_parts, fronts-prefixes, fronts-unlinked}
use Rattle.proof_frame.proofs.Reached.{Reaches}
use Rattle.proof_frame.proofs.Stretch.{Stretch, stretch-same}
use Rattle.proof_frame.proofs.PrefixNames.{prefixes-roles}
use Rattle.md_events.specs.Events.Endings.{on_line}
use Rattle.md_events.proofs.EndingsLemmas.{AreOthers, others-append, is_other}

-- the begin of a container before events
pub begun-tiled : (name : Name) (p q : Point) (xs ys : List Event) → xs ≢ [] → Covered p q (xs ++ ys) →
    Covered p q (enter name p ∷ xs ++ ys)
begun-tiled name p q [] ys some h = absurd (some refl)
begun-tiled name p q (e ∷ xs) ys some h = tiled-within (enter name p) e q (xs ++ ys) refl h

-- so what is before a line covers it
pub fronts-tiled : (bytes : List ℕ) (opens : List Container) (p q : Point) (es : List Event) →
    LinePrefix bytes opens p q es → Covered p q es
fronts-tiled bytes opens p q es (Following at) = tiled-none at at (same-refl at)
fronts-tiled bytes opens first last es (Proceeds same p q r xs ys is more) =
    tiled-append p q r xs ys is.common.tiled (fronts-tiled bytes same q r ys more)
fronts-tiled bytes opens first last es (Begins c before p q r xs ys is more) =
    begun-tiled (container_name c) p r xs ys is.some
    (tiled-append p q r xs ys is.common.tiled (fronts-tiled bytes before q r ys more))

-- what is before a further line of a text
pub fronts-inside : (bytes : List ℕ) (kind : PartKind) (opens : List Container) (p q : Point) (es : List Event) →
    opens ≡ [] → LinePrefix bytes opens p q es → Inside bytes kind [] es
fronts-inside bytes kind opens p q es none (Following at) = record {
  outside = tt;
  ends = refl;
  white = refl;
  has = refl;
  kinds = refl;
  are_valid = λ ys. refl;
}
fronts-inside bytes kind opens first last es none (Proceeds same p q r xs ys is more) =
    inside-append bytes kind [] [] xs ys (is.inside kind) (fronts-inside bytes kind same q r ys none more)
fronts-inside bytes kind opens first last es none (Begins c before p q r xs ys is more) = cc

-- the begin of a container before what follows it
pub begun-is_valid : (bytes : List ℕ) (name : Name) (p q : Point) (es : List Event) → es ≢ [] → Covered p q es →
    PiecesValid bytes es →
    PiecesValid bytes (enter name p ∷ es)
begun-is_valid bytes name p q [] some tiled h = absurd (some refl)
begun-is_valid bytes name p q (e ∷ es) some tiled h = record {
  ends = h.ends;
  are_valid = ap (are_valid_pieces bytes) (pieces-before (enter name p) (e ∷ es) tiled.begins) ∙ h.are_valid;
}

-- all that is before a line
pub fronts-is_valid : (bytes : List ℕ) (opens : List Container) (p q : Point) (es : List Event) →
    LinePrefix bytes opens p q es → PiecesValid bytes es
fronts-is_valid bytes opens p q es (Following at) = is_valid-none bytes
fronts-is_valid bytes opens first last es (Proceeds same p q r xs ys is more) =
    is_valid-append bytes xs ys is.common.is_valid (fronts-is_valid bytes same q r ys more)
fronts-is_valid bytes opens first last es (Begins c before p q r xs ys is more) =
    let facts : Opens bytes c p q xs = is in
    is_valid-append bytes (enter (container_name c) p ∷ xs) ys
    (begun-is_valid bytes (container_name c) p q xs facts.some facts.common.tiled facts.common.is_valid)
    (fronts-is_valid bytes before q r ys more)

-- and what is before a line
pub fronts-between : (bytes : List ℕ) (opens : List Container) (p q : Point) (front : List Event) →
    is_between bytes p.index ≡ true → LinePrefix bytes opens p q front →
    AreBetween bytes front × (is_between bytes q.index ≡ true)
fronts-between bytes _ p _ _ from (Following _) = (refl, from)
fronts-between bytes opens p r _ from (Proceeds _ _ q _ es fs is more) =
    let here = is.common.between from in
    let rest = fronts-between bytes opens q r fs here.1 more in
    (between-append bytes es fs here.0 rest.0, rest.1)
fronts-between bytes _ p r _ from (Begins c opens _ q _ es fs is more) =
    let here = is.common.between from in
    let rest = fronts-between bytes opens q r fs here.1 more in
    (between-more bytes (enter (container_name c) p) (es ++ fs) from (between-append bytes es fs here.0 rest.0), rest.1)

-- what is before a line
pub plain-front : (bytes : List ℕ) (opens : List Container) (p q : Point) (front : List Event) →
    LinePrefix bytes opens p q front → ArePlain bytes front
plain-front bytes _ p _ _ (Following _) = plain-nil bytes
plain-front bytes opens p r _ (Proceeds _ _ q _ es fs is more) =
    plain-append bytes es fs
    (plain-untold bytes es (prefixes-roles Untold es (refl, refl) (refl, refl) (refl, refl) is.names))
    (plain-front bytes opens q r fs more)
plain-front bytes _ p r _ (Begins c opens _ q _ es fs is more) =
    let facts : Opens bytes c p q es = is in
    let begin : Untold (role (container_name c)) = (container-facts c).untold facts.shown in
    plain-append bytes (enter (container_name c) p ∷ []) (es ++ fs)
    (plain-untold bytes (enter (container_name c) p ∷ []) (begin, tt))
    (plain-append bytes es fs facts.plain (plain-front bytes opens q r fs more))

-- the begin or the end of a container
pub container-others : (c : Container) (e : Event) → e.name ≡ container_name c → AreOthers (e ∷ [])
container-others c e same =
    and_from (is_other (on_line e.name)) true
    (ap (λ (name : Name). is_other (on_line name)) same ∙ (container-facts c).other) refl

-- what is before a line
pub fronts-others : (bytes : List ℕ) (opens : List Container) (p q : Point) (es : List Event) →
    LinePrefix bytes opens p q es → AreOthers es
fronts-others bytes opens p q es (Following at) = refl
fronts-others bytes opens first last es (Proceeds same p q r xs ys is more) =
    others-append xs ys is.common.others (fronts-others bytes same q r ys more)
fronts-others bytes opens first last es (Begins c below p q r xs ys is more) =
    others-append (enter (container_name c) p ∷ []) (xs ++ ys) (container-others c (enter (container_name c) p) refl)
    (others-append xs ys is.common.others (fronts-others bytes below q r ys more))

-- what is before a line begins at such a point, if its rest does
pub fronts-clear : (bytes : List ℕ) (opens : List Container) (p q : Point) (front : List Event) →
    LinePrefix bytes opens p q front → clear bytes q ≡ true → clear bytes p ≡ true
fronts-clear bytes _ p _ _ (Following _) h = h
fronts-clear bytes opens p r _ (Proceeds _ _ q _ es fs is more) h =
    is.common.clear (fronts-clear bytes opens q r fs more h)
fronts-clear bytes _ p r _ (Begins c opens _ q _ es fs is more) h =
    is.common.clear (fronts-clear bytes opens q r fs more h)

-- a text that begins in what is before a line ends in it
pub fronts-sit : (bytes : List ℕ) (opens : List Container) (p q : Point) (front : List Event) →
    LinePrefix bytes opens p q front → PrefixesAtLineStart bytes front
fronts-sit bytes _ p _ _ (Following _) = sits-still bytes [] tt
fronts-sit bytes opens p r _ (Proceeds _ _ q _ es fs is more) =
    sits-append bytes es fs (sits-still bytes es (prefixes-roles Still es tt tt tt is.names))
    (fronts-sit bytes opens q r fs more)
fronts-sit bytes _ p r _ (Begins c opens _ q _ es fs is more) =
    sits-append bytes (enter (container_name c) p ∷ []) (es ++ fs)
    (sits-still bytes (enter (container_name c) p ∷ []) ((container-facts c).still, tt))
    (sits-append bytes es fs is.sits (fronts-sit bytes opens q r fs more))

-- after what is before a further line of a text, the text continues
pub fronts-parted : (bytes : List ℕ) (opens : List Container) (p q : Point) (front : List Event) (span : OpenTextSpan)
    (rest : List Event) →
    LinePrefix bytes opens p q front → opens ≡ [] → is_between bytes p.index ≡ true → clear bytes q ≡ true →
    Reaches bytes p span → ((next : OpenTextSpan) → Reaches bytes q next → are_parted bytes (Some next) rest ≡ true) →
    are_parted bytes (Some span) (front ++ rest) ≡ true
fronts-parted bytes _ p _ _ span rest (Following _) e between at reaches f = f span reaches
fronts-parted bytes opens p r _ span rest (Proceeds _ _ q _ es fs is more) e between at reaches f =
    let facts : Continues bytes p q es = is in
    let following : is_between bytes q.index ≡ true = (facts.common.between between).1 in
    ap (are_parted bytes (Some span)) (append_assoc es fs rest)
    ∙ facts.parted span (fs ++ rest) reaches
    (clear-between bytes q (fronts-clear bytes opens q r fs more at) following)
    (λ next k. fronts-parted bytes opens q r fs next rest more e following at k f)
fronts-parted bytes _ p r _ span rest (Begins c opens _ q _ es fs is more) e between at reaches f = cc

-- Where no container opens, it is a stretch.
pub stretch-front : (R : Role → Type 0) (bytes : List ℕ) (p q : Point) (front : List Event) → R IsQuiet → R IsPrefix →
    R IsQuoteMarker → LinePrefix bytes [] p q front → Stretch R bytes p q front front
stretch-front R bytes p q front quiet prefix marker is =
    stretch-same R bytes p q front
    (prefixes-roles R front quiet prefix marker (fronts-prefixes bytes [] p q front refl is))
    (fronts-balanced bytes [] p q front is refl, fronts-spans bytes [] p q front is)
    (fronts-tiled bytes [] p q front is) (fronts-is_valid bytes [] p q front is) (fronts-no_parts bytes p q front is)
    (fronts-unlinked bytes p q front is) (λ first last. (fronts-between bytes [] p q front first is).0)
    (fronts-sit bytes [] p q front is)
