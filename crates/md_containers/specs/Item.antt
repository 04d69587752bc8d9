-- The list item: what each of its states does.
use Rattle.std.specs.Prelude.{◌≡◌, refl, ℕ, zero, suc, ◌+◌, ◌-◌, Bool, true, false, ◌&&◌, ◌||◌, ◌==◌, not}
use Rattle.std.specs.Prelude.{if◌then◌else◌, nat_le, nat_lt, ◌∷◌, length, Option, Some, None}
use Rattle.md_engine.specs.declared.event.Name.TheVariants.{ListItem, ListItemMarker, ListItemPrefix, ListItemValue}
use Rattle.md_engine.specs.declared.event.Name.TheVariants.{SpaceOrTab}
use Rattle.md_engine.specs.declared.state.Name.{Name as StateName}
use Rattle.md_engine.specs.declared.state.Name.TheVariants as n
use Rattle.md_engine.specs.declared.state.State.{State}
use Rattle.md_engine.specs.declared.state.State.TheVariants.{Ok, Nok, Next, Retry}
use Rattle.md_engine.specs.declared.state.blank_line.State.TheVariants as blank_line
use Rattle.md_engine.specs.declared.state.list_item.State.{State as ItemState}
use Rattle.md_engine.specs.declared.state.list_item.State.TheVariants as its
use Rattle.md_engine.specs.declared.state.thematic_break.State.TheVariants as thematic_break
use Rattle.md_engine.specs.declared.tokenizer.Scratch.{Scratch}
use Rattle.md_engine.specs.declared.tokenizer.TheConstants.Scratch.{REST}
use Rattle.md_engine.specs.declared.tokenizer.container.Container.{Container}
use Rattle.md_engine.specs.Scheme.{After, Ends, EndsLater, Rank, Scheme, Position, ranked, seen}
use Rattle.md_engine.specs.World.{Flags, World}
use Rattle.md_containers.specs.Interrupts.{interrupts}
use Rattle.md_meaning.specs.Ascii.{dot, plus, right_parenthesis}
use Rattle.md_meaning.specs.Containers.{is_bullet, is_digit}
use Rattle.md_leaves.specs.LeafStart as leaf
use Rattle.md_events.specs.Look.{looks_after, sees_other}
use Rattle.md_events.specs.Spaces.{IsRest, asking, calmed, ends_line, later_ready, rest_ready, sees_white, white_then}
use Rattle.md_events.specs.Transition.{Transition, entered, exited, taken, tried}

-- what follows the digits of an ordered item
abbrev pub ends_value : ℕ → Bool
ends_value b = (b == dot) || (b == right_parenthesis)

abbrev pub is_item_marker : ℕ → Bool
is_item_marker b = is_bullet b || ends_value b

-- what may be first after the indent where an item opens
abbrev pub may_begin : ℕ → Bool
may_begin b = is_bullet b || is_digit b

-- whether a byte is here of which this holds
abbrev pub sees : (ℕ → Bool) → Option ℕ → Bool
sees is None = false
sees is (Some b) = is b

-- with none of what was counted, and with nothing met
abbrev pub without_size : Scratch → Scratch
without_size s = record s { size = 0 }

abbrev pub unseen : Scratch → Scratch
unseen s = record s { seen = false }

-- an attempt has begun that is taken back also where it holds
abbrev pub checked : World → State → State → World
checked w ok nok = record w {
  frames = record { ok = ok; nok = nok; is_check = true; events_len = length w.events; point = w.point } ∷ w.frames;
}

-- it is no item
abbrev pub refused : World → Transition
refused w = record { to = Nok; world = w }

abbrev pub proceeds_to : ItemState → World → Transition
proceeds_to state w = record { to = Retry (n.ListItem state); world = w }

-- What opens an item.

abbrev pub start_transition : World → Transition
start_transition w =
    leaf.start_transition ListItem (n.ListItem its.Before) w.setting.options.constructs.list_item w

-- at a bullet, by whether a thematic break may be here
abbrev pub bullet_code : World → Bool → Transition
bullet_code w true = record {
  to = Retry (n.ThematicBreak thematic_break.Start);
  world = checked w Nok (Next (n.ListItem its.BeforeUnordered));
}
bullet_code w false = proceeds_to its.BeforeUnordered w

-- whether a thematic break of this marker may be here: there is none of `+`, and none where another byte is seen
abbrev pub may_break : World → ℕ → Bool
may_break w b = w.setting.options.constructs.thematic_break && not ((b == plus) || sees_other w b)

-- by what is here; text is interrupted by the number 1 alone
abbrev pub before_code : World → Option ℕ → Transition
before_code w None = refused w
before_code w (Some b) =
    if is_bullet b then bullet_code w (may_break w b)
    else if is_digit b && (not (interrupts w.flags) || (b == 49)) then proceeds_to its.BeforeOrdered w
    else refused w

-- by whether a digit is here
abbrev pub before_ordered_code : World → Bool → Transition
before_ordered_code w true = proceeds_to its.Value (entered (entered w ListItemPrefix) ListItemValue)
before_ordered_code w false = refused w

-- by whether one more digit is taken, and whether the value ends
abbrev pub value_code : World → Bool → Bool → Transition
value_code w true ends =
    record {
      to = Next (n.ListItem its.Value);
      world = record (taken w) { scratch = record w.scratch { size = w.scratch.size + 1 } };
    }
value_code w false true =
    proceeds_to its.Marker (record (exited w ListItemValue) { scratch = without_size w.scratch })
value_code w false false = refused (record w { scratch = without_size w.scratch })

-- by whether a marker is here
abbrev pub marker_code : World → Bool → Transition
marker_code w true = record {
  to = Next (n.ListItem its.MarkerAfter);
  world = exited (taken (entered w ListItemMarker)) ListItemMarker;
}
marker_code w false = refused w

-- to one of two states, by whether the rest of the line is blank: by what is first after whitespace or, where that is
-- not known, by a check
abbrev pub blank_code : ItemState → ItemState → World → Option ℕ → Transition
blank_code blank filled w None = record {
  to = Retry (n.BlankLine blank_line.Start);
  world = checked w (Next (n.ListItem blank)) (Next (n.ListItem filled));
}
blank_code blank filled w (Some b) = if b == 10 then proceeds_to blank w else proceeds_to filled w

-- 1 to 4 columns are tried; that something is after the marker is noted
abbrev pub filled_transition : World → Transition
filled_transition w =
    proceeds_to its.Whitespace (record (tried w (Next (n.ListItem its.After)) (Next (n.ListItem its.PrefixOther))) {
      scratch = record w.scratch { seen = true };
    })

-- by whether whitespace is left
abbrev pub whitespace_after_code : World → Bool → Transition
whitespace_after_code w true = refused w
whitespace_after_code w false = record { to = Ok; world = w }

-- by whether whitespace is here
abbrev pub prefix_other_code : World → Bool → Transition
prefix_other_code w true =
    record { to = Next (n.ListItem its.After); world = exited (taken (entered w SpaceOrTab)) SpaceOrTab }
prefix_other_code w false = refused (record w { scratch = unseen w.scratch })

-- an item is a column wide at least
abbrev pub at_least_one : ℕ → ℕ
at_least_one columns = if columns == 0 then 1 else columns

-- the columns that a further line has to lose, from the begin of an item to here; where its first line is blank, as if
-- a column was after the marker
abbrev pub width_here : ℕ → ℕ → Bool → ℕ
width_here column from blank = at_least_one (column - from + (if blank then 1 else 0))

-- the item that opens is held
abbrev pub item_held : Flags → ℕ → Bool → Flags
item_held g column blank = record g {
  asked = record g.asked { width = width_here column g.asked_column blank; starts_blank = blank };
}

-- by whether it may not open, and whether its first line is blank
abbrev pub after_code : World → Bool → Bool → Transition
after_code w true blank = refused (record w { scratch = unseen w.scratch })
after_code w false blank = record {
  to = Ok;
  world = record (exited w ListItemPrefix) {
    scratch = unseen w.scratch;
    flags = item_held w.flags w.point.column blank;
  };
}

-- What has an item continue, and a footnote definition.

-- the columns that a further line has to lose
abbrev pub least_width : Container → ℕ
least_width c = at_least_one c.width

-- it does not start blank any more
abbrev pub item_is_further : Flags → Flags
item_is_further g = record g { asked = record g.asked { starts_blank = false } }

-- by whether the line ends here, and whether the item started blank
abbrev pub cont_start_code : World → Bool → Bool → Transition
cont_start_code w true true = refused w
cont_start_code w true false = record { to = Ok; world = w }
cont_start_code w false blank = blank_code its.ContBlank its.ContFilled w (looks_after w)

-- the first column of an indent, of which so many are asked for at least: by whether whitespace is here
abbrev pub indent_code : ItemState → ℕ → World → Bool → Transition
indent_code state min w true =
    record {
      to = Next (n.ListItem state);
      world = record (taken (entered w SpaceOrTab)) {
        scratch = asking min (least_width w.flags.asked) 1 w.scratch;
      };
    }
indent_code state min w false = refused w

-- in an indent, by whether one more column is taken, and whether there are enough
abbrev pub inside_code : ItemState → World → Bool → Bool → Transition
inside_code state w true enough =
    record {
      to = Next (n.ListItem state);
      world = record (taken w) {
        scratch = asking w.scratch.whitespace.min w.scratch.whitespace.max (w.scratch.whitespace.size + 1) w.scratch;
      };
    }
inside_code state w false true = record {
  to = Ok;
  world = record (exited w SpaceOrTab) { scratch = calmed w.scratch; flags = item_is_further w.flags };
}
inside_code state w false false = refused (record w { scratch = calmed w.scratch })

abbrev pub inside_transition : ItemState → World → Transition
inside_transition state w =
    inside_code state w (sees_white w.current && nat_lt w.scratch.whitespace.size w.scratch.whitespace.max)
    (nat_le w.scratch.whitespace.min w.scratch.whitespace.size)

-- by how many columns are asked for at most, none before the first
abbrev pub cont_blank_code : World → ℕ → Transition
cont_blank_code w zero =
    if w.flags.asked.starts_blank then refused w else indent_code its.ContBlank 1 w (sees_white w.current)
cont_blank_code w (suc more) = inside_transition its.ContBlank w

abbrev pub cont_filled_code : World → ℕ → Transition
cont_filled_code w zero = indent_code its.ContFilled (least_width w.flags.asked) w (sees_white w.current)
cont_filled_code w (suc more) = inside_transition its.ContFilled w

-- Each state with what it does, where there is memory.

abbrev pub before_transition : World → Transition
before_transition w = before_code w w.current

abbrev pub before_unordered_transition : World → Transition
before_unordered_transition w = proceeds_to its.Marker (entered w ListItemPrefix)

abbrev pub before_ordered_transition : World → Transition
before_ordered_transition w = before_ordered_code w (sees is_digit w.current)

abbrev pub value_transition : World → Transition
value_transition w =
    value_code w (sees is_digit w.current && nat_lt w.scratch.size 9)
    (sees ends_value w.current && (not (interrupts w.flags) || nat_lt w.scratch.size 2))

abbrev pub marker_transition : World → Transition
marker_transition w = marker_code w (sees is_item_marker w.current)

abbrev pub marker_after_transition : World → Transition
marker_after_transition w = blank_code its.After its.MarkerAfterFilled w (looks_after w)

abbrev pub whitespace_transition : World → Transition
whitespace_transition w = white_then w 1 4 (Next (n.ListItem its.WhitespaceAfter)) Nok

abbrev pub whitespace_after_transition : World → Transition
whitespace_after_transition w = whitespace_after_code w (sees_white w.current)

abbrev pub prefix_other_transition : World → Transition
prefix_other_transition w = prefix_other_code w (sees_white w.current)

abbrev pub after_transition : World → Transition
after_transition w = let blank = not w.scratch.seen in after_code w (blank && interrupts w.flags) blank

abbrev pub cont_start_transition : World → Transition
cont_start_transition w = cont_start_code w (ends_line w.current) w.flags.asked.starts_blank

abbrev pub cont_blank_transition : World → Transition
cont_blank_transition w = cont_blank_code w w.scratch.whitespace.max

abbrev pub cont_filled_transition : World → Transition
cont_filled_transition w = cont_filled_code w w.scratch.whitespace.max

-- all of them
abbrev pub item_transition : ItemState → World → Transition
item_transition its.Start w = start_transition w
item_transition its.Before w = before_transition w
item_transition its.BeforeUnordered w = before_unordered_transition w
item_transition its.BeforeOrdered w = before_ordered_transition w
item_transition its.Value w = value_transition w
item_transition its.Marker w = marker_transition w
item_transition its.MarkerAfter w = marker_after_transition w
item_transition its.MarkerAfterFilled w = filled_transition w
item_transition its.Whitespace w = whitespace_transition w
item_transition its.WhitespaceAfter w = whitespace_after_transition w
item_transition its.PrefixOther w = prefix_other_transition w
item_transition its.After w = after_transition w
item_transition its.ContStart w = cont_start_transition w
item_transition its.ContBlank w = cont_blank_transition w
item_transition its.ContFilled w = cont_filled_transition w

-- Readiness. An item accepts only after the point where it begins, after its marker everywhere.

-- where it is noted that something is after the marker
abbrev pub IsFilled : Scratch → Type 0
IsFilled s = s ≡ record REST { seen = true }

-- an indent that was not begun, and one of which a column was taken
abbrev pub indent_ready : ℕ → Position → After → Type 0
indent_ready zero x K = later_ready x K
indent_ready (suc more) x K = IsRest (calmed x.scratch) × Ends IsRest IsRest x K

abbrev pub item_ready : StateName → Position → After → Type 0
item_ready (n.ListItem its.Value) x K = IsRest (without_size x.scratch) × EndsLater IsRest IsRest x K
item_ready (n.ListItem its.MarkerAfter) x K = rest_ready x K
item_ready (n.ListItem its.MarkerAfterFilled) x K = rest_ready x K
item_ready (n.ListItem its.Whitespace) x K = IsFilled x.scratch × Ends IsFilled IsFilled x K
item_ready (n.ListItem its.WhitespaceAfter) x K = IsFilled x.scratch × Ends IsFilled IsFilled x K
item_ready (n.ListItem its.PrefixOther) x K = IsRest (unseen x.scratch) × Ends IsRest IsRest x K
item_ready (n.ListItem its.After) x K = IsRest (unseen x.scratch) × Ends IsRest IsRest x K
-- where the line ends the document asks no item
item_ready (n.ListItem its.ContStart) x K = later_ready x K × (ends_line (seen x) ≡ false)
item_ready (n.ListItem its.ContBlank) x K = indent_ready x.scratch.whitespace.max x K
item_ready (n.ListItem its.ContFilled) x K = indent_ready x.scratch.whitespace.max x K
item_ready _ x K = later_ready x K

-- what the rule of an item needs at a state: what was begun before it is over
abbrev pub ItemInvariant : StateName → Position → Type 0
ItemInvariant (n.ListItem its.Before) x = IsRest x.scratch
ItemInvariant (n.ListItem its.MarkerAfterFilled) x = IsRest x.scratch
ItemInvariant (n.ListItem its.ContStart) x = IsRest x.scratch
ItemInvariant _ x = Unit {0}

abbrev pub item_level : StateName → ℕ
item_level (n.ListItem its.Whitespace) = 1
item_level (n.ListItem its.WhitespaceAfter) = 1
item_level _ = 2

abbrev pub item_rank : StateName → Position → Rank
item_rank (n.ListItem its.Start) x = ranked 15 refl
item_rank (n.ListItem its.Before) x = ranked 13 refl
item_rank (n.ListItem its.BeforeUnordered) x = ranked 11 refl
item_rank (n.ListItem its.BeforeOrdered) x = ranked 11 refl
item_rank (n.ListItem its.Value) x = ranked 10 refl
item_rank (n.ListItem its.Marker) x = ranked 9 refl
item_rank (n.ListItem its.MarkerAfter) x = ranked 8 refl
item_rank (n.ListItem its.MarkerAfterFilled) x = ranked 6 refl
item_rank (n.ListItem its.Whitespace) x = ranked 4 refl
item_rank (n.ListItem its.WhitespaceAfter) x = ranked 2 refl
item_rank (n.ListItem its.ContStart) x = ranked 3 refl
item_rank _ x = ranked 1 refl

abbrev pub item_tries : StateName → Rank
item_tries (n.ListItem its.Before) = ranked 14 refl
item_tries (n.ListItem its.BeforeUnordered) = ranked 12 refl
item_tries (n.ListItem its.MarkerAfterFilled) = ranked 7 refl
item_tries (n.ListItem its.PrefixOther) = ranked 5 refl
item_tries (n.ListItem its.WhitespaceAfter) = ranked 3 refl
item_tries _ = ranked 2 refl

abbrev pub item_scheme : Scheme
item_scheme = record { ready = item_ready; level = item_level; rank = item_rank; tries = item_tries }
