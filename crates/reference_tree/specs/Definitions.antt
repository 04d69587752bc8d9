-- What the parts of definitions mean.
use Rattle.std.specs.Prelude.{ℕ, List, [], ◌∷◌, map, drop, Option, Some}
use Rattle.std.specs.Prelude.{None}
use Rattle.std.specs.Borrow.{Bor}
use Rattle.std.specs.Option.{option_map}
use Rattle.md_meaning.specs.Enclosed as e
use Rattle.md_meaning.specs.Definition as d
use Rattle.reference_tree.specs.declared.definition.Defined.{Defined}
use Rattle.reference_tree.specs.declared.definition.Cut.{Cut}
use Rattle.reference_tree.specs.declared.definition.Ahead.{Ahead}
use Rattle.reference_tree.specs.declared.definition.Text.{Text}
use Rattle.reference_tree.specs.declared.definition.Title.{Title}
use Rattle.reference_tree.specs.declared.definition.Found.{Found}
use Rattle.md_scan.specs.Definitions.{texts}

abbrev pub ahead_meaning : List (Bor (List ℕ)) → Ahead → List (List ℕ)
ahead_meaning lines a = a.rest.now ∷ texts (drop a.next lines)

abbrev pub gap_meaning : List (Bor (List ℕ)) → Option Ahead → List (List ℕ)
gap_meaning lines None = []
gap_meaning lines (Some a) = ahead_meaning lines a

abbrev pub text_meaning : List (Bor (List ℕ)) → Text → e.Lines
text_meaning lines t = record { text = texts t.lines.items; rest = ahead_meaning lines t.ahead }

abbrev pub title_meaning : List (Bor (List ℕ)) → Title → e.Lines
title_meaning lines t = record { text = texts t.lines.items; rest = texts (drop t.next lines) }

abbrev pub defined_meaning : Defined → d.Defined
defined_meaning x = record {
  label = texts x.label.items;
  destination = x.destination.now;
  title = option_map (λ lines. texts lines.items) x.title;
}

abbrev pub found_meaning : List (Bor (List ℕ)) → Found → d.Cut
found_meaning lines x = record { defined = defined_meaning x.defined; rest = texts (drop x.next lines) }

abbrev pub cut_meaning : Cut → List d.Defined × List (List ℕ)
cut_meaning x = (map defined_meaning x.definitions.items, texts x.remaining.items)
