-- Events that may be in a leaf of several lines, by their names (`is_lined`).
use Rattle.std.proofs.Common.{◌≡◌, Bool, true, false, cond, List, ◌++◌, refl}
use Rattle.std.proofs.lemmas.Bool.{and_right}
use Rattle.md_engine.specs.declared.event.Event.{Event}
use Rattle.md_engine.specs.declared.event.Name.{Name}
use Rattle.md_engine.specs.declared.event.Name.TheVariants as n
use Rattle.md_engine.specs.declared.event.Point.{Point}
use Rattle.md_leaves.specs.Spanned.{is_renamed}
use Rattle.md_leaves.specs.declared.spans.Place.TheVariants.{Outside}
use Rattle.md_events.specs.Events.Nested.{is_enter, pair}
use Rattle.md_events.specs.Events.Prefix.{is_prefix}
use Rattle.proof_frame.proofs.EventNames.{is_lined, is_own, lined-opened, lined-own, lined-passes, prefix-named}
use Rattle.proof_frame.proofs.ClosedFacts.{OpensNothing}
use Rattle.proof_frame.proofs.EachEvent.{Each, each-as}
use Rattle.proof_frame.proofs.LeafLines.Each.{OfGaps}
use Rattle.proof_frame.proofs.OutsideFacts.{IsOutside}
use Rattle.proof_frame.proofs.PrefixNames.{ArePrefixes, IsNamed}
use Rattle.proof_frame.proofs.UnturnedFacts.{IsUnturned}

abbrev pub IsLined : Event → Type 0
IsLined e = is_lined e.name ≡ true

abbrev pub AreLined : List Event → Type 0
AreLined es = Each IsLined es

-- prefixes are such
pub prefix-lined : (e : Event) → IsNamed is_prefix e → IsLined e
prefix-lined e is = prefix-named e.name is.0

pub prefixes-lined : (es : List Event) → ArePrefixes es → AreLined es
prefixes-lined es h = each-as (IsNamed is_prefix) IsLined prefix-lined es h

-- No resolver but the one that joins lines changes them, and none begins a block that others are held from.

pub lined-outside : (e : Event) → IsLined e → IsOutside e
lined-outside e is = and_right (is_enter e.kind) (is_own e.name) (lined-own e.name is)

pub lined-unturned : (e : Event) → IsLined e → IsUnturned e
lined-unturned e is = lined-passes e.name is

pub lined-opens : (e : Event) → IsLined e → OpensNothing e
lined-opens e is = lined-opened e.name is

-- What holds of such events, of endings, and of events one after the other holds of what is between lines: a blank line
-- has such events, and whitespace in the place of others.
pub lined-gaps : (L : List Event → Type 0) → ((es : List Event) → AreLined es → L es) →
    ((xs ys : List Event) → L xs → L ys → L (xs ++ ys)) → ((p q : Point) → L (pair n.LineEnding p q)) →
    OfGaps IsLined L
lined-gaps L all append ending = record {
  all = all;
  append = append;
  ending = ending;
  blank = λ p q. all (pair n.BlankLineEnding p q) (refl, (refl, tt));
  white = λ e h. white (is_renamed Outside e.name) e.name h;
}
  where
    white : (x : Bool) (name : Name) → is_lined name ≡ true → is_lined (cond x n.SpaceOrTab name) ≡ true
    white true name h = refl
    white false name h = h
