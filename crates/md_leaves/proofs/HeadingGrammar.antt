-- What is in an ATX heading keeps the grammar of events.
use Rattle.std.proofs.Common.{◌≡◌, ℕ, Bool, true, false, ◌&&◌, List, [], ◌∷◌, ◌++◌, refl}
use Rattle.std.specs.Prelude.{not}
use Rattle.std.specs.List.{AllPass}
use Rattle.std.proofs.lemmas.Bool.{and_parts}
use Rattle.md_engine.specs.declared.event.Event.{Event}
use Rattle.md_engine.specs.declared.event.Name.TheVariants as n
use Rattle.md_engine.specs.declared.event.Point.{Point}
use Rattle.md_leaves.specs.HeadingRule as heading
use Rattle.md_leaves.specs.HeadingRuns.{Apart, line_runs}
use Rattle.md_leaves.specs.HeadingTitle.{Title, title_of}
use Rattle.md_leaves.proofs.TitleLemmas.{hashes-some, parts-drop, parts-take}
use Rattle.md_leaves.proofs.TitleRuns.{hash-runs, is_hash, three-runs, white-runs}
use Rattle.md_leaves.proofs.TitleTexts.{Parted, Shape, parted}
use Rattle.md_meaning.specs.Bytes.{begins, is_end}
use Rattle.md_meaning.specs.Rest.{is_white, trim_start}
use Rattle.md_events.specs.Events.Grammar.{Expression, Nothing, inside, may_end}
use Rattle.md_events.specs.Events.Places.{past_text}
use Rattle.md_events.proofs.GrammarLemmas.{IsWord, Leads, leads-append, maybe}

abbrev is_some : List ℕ → Bool
is_some bytes = not (is_end bytes)

-- whitespace
white-leads : (text x : Expression) (white : List ℕ) (p : Point) → AllPass is_white white →
    Leads text (x ∷ []) (maybe (is_some white) n.SpaceOrTab x ∷ []) (line_runs Apart white p)
white-leads text x [] p w outer = refl
white-leads text x (b ∷ bs) p w outer = rw (white-runs b bs p w) refl

-- a sequence
hashes-leads : (text x : Expression) (hashes : List ℕ) (p : Point) → AllPass is_hash hashes →
    Leads text (x ∷ []) (maybe (is_some hashes) n.HeadingAtxSequence x ∷ []) (line_runs Apart hashes p)
hashes-leads text x [] p h outer = refl
hashes-leads text x (b ∷ bs) p h outer = rw (hash-runs b bs p h) refl

-- What is left after whitespace, a sequence and whitespace, each of which may be there or not.
abbrev after_three : Bool → Bool → Bool → Expression → Expression
after_three white hashes more x =
    maybe more n.SpaceOrTab (maybe hashes n.HeadingAtxSequence (maybe white n.SpaceOrTab x))

three-leads : (text x : Expression) (white hashes more : List ℕ) (p : Point) → AllPass is_white white →
    AllPass is_hash hashes → AllPass is_white more → begins is_white (hashes ++ more) ≡ false →
    Leads text (x ∷ []) (after_three (is_some white) (is_some hashes) (is_some more) x ∷ [])
    (line_runs Apart (white ++ (hashes ++ more)) p)
three-leads text x white hashes more p w h m apart =
    let q = past_text white p in
    let r = past_text hashes q in
    let y = maybe (is_some white) n.SpaceOrTab x in
    let z = maybe (is_some hashes) n.HeadingAtxSequence y in
    let left = maybe (is_some more) n.SpaceOrTab z in
    rw (three-runs white hashes more p w h m apart)
    (leads-append text (x ∷ []) (y ∷ []) (left ∷ []) (line_runs Apart white p)
    (line_runs Apart hashes q ++ line_runs Apart more r) (white-leads text x white p w)
    (leads-append text (y ∷ []) (z ∷ []) (left ∷ []) (line_runs Apart hashes q) (line_runs Apart more r)
    (hashes-leads text y hashes q h) (white-leads text z more r m)))

-- a test of both holds of each
abbrev of_both : (Bool → Bool) → Bool
of_both f = f true && f false

-- each of them passes it
each-of : (f : Bool → Bool) → of_both f ≡ true → (b : Bool) → f b ≡ true
each-of f h true = (and_parts (f true) (f false) h).0
each-of f h false = (and_parts (f true) (f false) h).1

-- what is left of a heading after the whitespace that follows its opening sequence
abbrev opened : Bool → Bool → Expression
opened indent gap = after_three indent true gap (inside Nothing n.HeadingAtx)

-- the heading may end there
abbrev title_ends : Bool → Bool → Bool → Bool → Bool → Bool → Bool
title_ends indent gap some white hashes more =
    may_end (after_three white hashes more (maybe some n.HeadingAtxText (opened indent gap)))

-- whatever is there
title-ends : (indent gap some white hashes more : Bool) → title_ends indent gap some white hashes more ≡ true
title-ends indent gap some white hashes more =
    each-of (λ m. title_ends indent gap some white hashes m)
    (each-of (λ h. of_both (λ m. title_ends indent gap some white h m))
    (each-of (λ w. of_both (λ h. of_both (λ m. title_ends indent gap some w h m)))
    (each-of (λ t. of_both (λ w. of_both (λ h. of_both (λ m. title_ends indent gap t w h m))))
    (each-of (λ g. of_both (λ t. of_both (λ w. of_both (λ h. of_both (λ m. title_ends indent g t w h m)))))
    (each-of (λ i. of_both (λ g. of_both (λ t. of_both (λ w. of_both (λ h. of_both (λ m. title_ends i g t w h m))))))
    refl indent) gap) some) white) hashes) more

some-there : (bytes : List ℕ) → (bytes ≡ [] → ⊥) → is_some bytes ≡ true
some-there [] h = absurd (h refl)
some-there (b ∷ bs) h = refl

-- A heading, with a text or without.
pub title-word : (text : Expression) (line : List ℕ) (p : Point) (some : Bool) (events : List Event) →
    heading.is_heading (trim_start line) ≡ true →
    ((x : Expression) → Leads text (x ∷ []) (maybe some n.HeadingAtxText x ∷ []) events) →
    IsWord text (inside text n.HeadingAtx ∷ []) ((title_of line p).front ++ events ++ (title_of line p).back)
title-word text line p some events h on = record {
  left = left;
  leads =
      leads-append text whole (named ∷ []) (left ∷ []) (title.front ++ events) title.back
      (leads-append text whole (spaced ∷ []) (named ∷ []) title.front events
      front (on spaced))
      (rw (parts-drop line x, s.is)
      (three-leads text named s.white s.hashes s.more _ s.white_is s.hashes_are s.more_is s.apart));
  ends =
      title-ends (is_some x.indent) (is_some x.gap) some (is_some s.white) (is_some s.hashes) (is_some s.more);
}
  where
    title : Title
    title = title_of line p

    x : Parted line
    x = parted line

    s : Shape x.back
    s = x.shape

    some_hashes : is_some x.hashes ≡ true
    some_hashes = some-there x.hashes (hashes-some line x.hashes x.depth h)

    whole : List Expression
    whole = inside text n.HeadingAtx ∷ []

    spaced : Expression
    spaced = opened (is_some x.indent) (is_some x.gap)

    front : Leads text whole (spaced ∷ []) title.front
    front =
        rw (parts-take line x)
        (rw some_hashes at
        (three-leads text (inside text n.HeadingAtx) x.indent x.hashes x.gap p x.indent_is x.hashes_are x.gap_is
        x.apart))

    named : Expression
    named = maybe some n.HeadingAtxText spaced

    left : Expression
    left = after_three (is_some s.white) (is_some s.hashes) (is_some s.more) named
