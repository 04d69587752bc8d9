-- What is known of events that are inside of a leaf of several lines, from a point to a point.
--
-- It is what is asked of the events of a leaf, so that those of its lines are joined: one after the other, with an
-- ending between two lines, and with prefixes of the containers that continue.
use Rattle.std.proofs.Common.{◌≡◌, ℕ, true, List, [], ◌++◌, refl}
use Rattle.md_engine.specs.declared.event.Event.{Event}
use Rattle.md_engine.specs.declared.event.Name.TheVariants as n
use Rattle.md_engine.specs.declared.event.Point.{Point}
use Rattle.md_events.specs.Events.Grammar.{Expression, following}
use Rattle.md_events.specs.Events.Nested.{pair}
use Rattle.md_events.specs.Events.Spelled.{OpenLeaf}
use Rattle.md_events.proofs.FeedLines.{IsEnding}
use Rattle.md_events.proofs.SpelledLemmas.{QuietOrPrefix}
use Rattle.md_outline.specs.Between.{is_between}
use Rattle.md_outline.specs.LinesAllowed.{Site}
use Rattle.md_outline.proofs.LinesPass.{IsOnLine, ended_site, passes-ending, passes-prefixes}
use Rattle.proof_frame.proofs.ContainerNames.{TakesPrefixes}
use Rattle.proof_frame.proofs.FrontFacts.{LinePrefix}
use Rattle.proof_frame.proofs.FrontNames.{fronts-prefixes}
use Rattle.proof_frame.proofs.FrontValid.{plain-front}
use Rattle.proof_frame.proofs.PartedFacts.{clear}
use Rattle.proof_frame.proofs.PartsFacts.{PartsFacts, following_ending, parts-append, parts-ended, parts-front}
use Rattle.proof_frame.proofs.PartsFacts.{parts-none}
use Rattle.proof_frame.proofs.PlainFacts.{ArePlainFrom, plain-none, plain-through, plain-untold}
use Rattle.proof_frame.proofs.PrefixNames.{prefixes-roles}

-- These events are parts of a leaf from a point to a point, before text parts are read, and those once they are; an
-- outline goes from this place in the leaf to that.
pub record InsideFacts (bytes : List ℕ) (p q : Point) (x y : Expression) (from to : OpenLeaf) (start end : Site)
    (unread done : List Event) : Type 0 where
  pub parts : PartsFacts bytes p q x y from to unread done
  -- they may be outlined
  pub plain : clear bytes p ≡ true → ArePlainFrom bytes start end done

-- Events one after the other.

-- where some end and others begin, which continue to a point: between characters, and where no tab is cut off one
pub record Meets (bytes : List ℕ) (q r : Point) : Type 0 where
  pub between : is_between bytes r.index ≡ true → is_between bytes q.index ≡ true
  pub clear : clear bytes q ≡ true

pub inside-append : {bytes : List ℕ} {p q r : Point} {x y z : Expression} {from mid to : OpenLeaf}
    {start middle end : Site} {us es vs fs : List Event} →
    InsideFacts bytes p q x y from mid start middle us es → InsideFacts bytes q r y z mid to middle end vs fs →
    Meets bytes q r → InsideFacts bytes p r x z from to start end (us ++ vs) (es ++ fs)
inside-append {bytes = bytes} {start = start} {middle = middle} {end = end} {es = es} {fs = fs} h k meets = record {
  parts = parts-append h.parts k.parts (λ first last. meets.between last);
  plain = λ first. plain-through bytes start middle end es fs (h.plain first) (k.plain meets.clear);
}

-- none
pub inside-none : (bytes : List ℕ) (p : Point) (x : Expression) (leaf : OpenLeaf) (site : Site) →
    InsideFacts bytes p p x x leaf leaf site site [] []
inside-none bytes p x leaf site =
    record { parts = parts-none bytes p x leaf; plain = λ first. plain-none bytes site }

-- an ending between two lines
pub ending-inside : (bytes : List ℕ) (p q : Point) (x : Expression) (leaf : OpenLeaf) (site : Site) → p.vs ≡ 0 →
    IsEnding bytes p q → IsOnLine site →
    InsideFacts bytes p q x (following n.LineEnding x) leaf (following_ending bytes q leaf) site
    (ended_site bytes q site)
    (pair n.LineEnding p q) (pair n.LineEnding p q)
ending-inside bytes p q x leaf site whole is on = record {
  parts = parts-ended bytes p q x leaf whole is;
  plain = λ first. record {
    known = (plain-untold bytes (pair n.LineEnding p q) ((refl, refl), ((refl, refl), tt))).known;
    lines = passes-ending bytes p q site on;
  };
}

-- prefixes of containers that continue, before a further line
pub front-inside : (bytes : List ℕ) (p q : Point) (x : Expression) (leaf : OpenLeaf) (site : Site)
    (front : List Event) →
    TakesPrefixes x → IsOnLine site → LinePrefix bytes [] p q front →
    InsideFacts bytes p q x x leaf leaf site site front front
front-inside bytes p q x leaf site front takes on is = record {
  parts = parts-front bytes p q x leaf front takes is;
  plain = λ first. record {
    known = (plain-front bytes [] p q front is).known;
    lines =
        passes-prefixes bytes site front on
        (prefixes-roles QuietOrPrefix front tt tt tt (fronts-prefixes bytes [] p q front refl is));
  };
}
