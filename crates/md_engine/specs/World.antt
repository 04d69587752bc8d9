-- What contracts see of a tokenizer.
use Rattle.std.specs.Prelude.{ℕ, ◌-◌, Bool, false, ◌==◌, if◌then◌else◌, List, [], ◌∷◌, ◌++◌, take, drop, Option, None}
use Rattle.std.specs.Prelude.{Some, reverse, slice_index, slice_get, nat_lt}
use Rattle.std.specs.List.{list_any}
use Rattle.md_engine.specs.declared.configuration.ParseOptions.{ParseOptions}
use Rattle.md_engine.specs.declared.event.Point.{Point}
use Rattle.md_engine.specs.declared.event.Event.{Event}
use Rattle.md_engine.specs.declared.resolve.name.Name.{Name as ResolveName}
use Rattle.md_engine.specs.declared.tokenizer.container.Container.{Container}
use Rattle.md_engine.specs.declared.tokenizer.container.name.ContainerKind.{ContainerKind}
use Rattle.md_engine.specs.ContainerName.{first_kind}
use Rattle.md_engine.specs.declared.tokenizer.held_leaf.HeldLeaf.{HeldLeaf}
use Rattle.md_engine.specs.declared.tokenizer.held_leaf.HeldLeaf.TheVariants as held_leaf
use Rattle.md_engine.specs.declared.tokenizer.Frame.{Frame}
use Rattle.md_engine.specs.declared.tokenizer.Line.{Line}
use Rattle.md_engine.specs.declared.tokenizer.Scratch.{Scratch}
use Rattle.md_engine.specs.declared.tokenizer.TheConstants.Scratch.{REST}
use Rattle.md_engine.specs.declared.tokenizer.Tokenizer.{Tokenizer}
use Rattle.md_engine.specs.Ends.{ends_at, point_of, put}
use Rattle.md_engine.specs.Resolvers.{same_name}
use Rattle.md_engine.specs.Place.{begun_at, is_ending, next_point, seen_at}

-- what no state changes: the text, the options, and what the parent says of the line that is fed
pub record Setting : Type 0 where
  pub bytes : List ℕ
  pub options : ParseOptions
  -- how far the text may be read now
  pub limit : ℕ
  -- where lines begin, from this line on
  pub first_line : ℕ
  pub skips : List Point
  pub line : Line

-- what a construct shows the containers around it, and what is known of these
pub record Flags : Type 0 where
  -- the leaf that is open after what was read
  pub leaf : HeldLeaf
  -- whether nothing but whitespace is on the line that was read
  pub blank : Bool
  -- the leaf that was open before the line that is read
  pub leaf_before : HeldLeaf
  -- the open containers, the outermost first
  pub containers : List Container
  -- how many of them continued, or opened, on this line
  pub continued : ℕ
  -- the one that is asked whether it continues, or that is tried, as it is held if it continues or opens; and the
  -- column where it begins
  pub asked : Container
  pub asked_column : ℕ
  -- the index of the first event after the line that was read last
  pub line_end : ℕ

pub record World : Type 0 where
  pub setting : Setting
  pub point : Point
  pub current : Option ℕ
  pub events : List Event
  -- the attempts, the innermost first
  pub frames : List Frame
  pub scratch : Scratch
  pub flags : Flags
  pub resolvers : List ResolveName

abbrev pub setting_of : Tokenizer → Setting
setting_of t = record {
  bytes = t.bytes.now;
  options = t.options.now;
  limit = t.limit;
  first_line = t.first_line;
  skips = t.skips.items;
  line = t.line;
}

abbrev pub flags_of : Tokenizer → Flags
flags_of t = record {
  leaf = t.flags.leaf;
  blank = t.flags.blank;
  leaf_before = t.flags.leaf_before;
  containers = t.containers.items;
  continued = t.flags.continued;
  asked = t.flags.asked;
  asked_column = t.flags.asked_column;
  line_end = t.flags.line_end;
}

abbrev pub world : Tokenizer → World
world t = record {
  setting = setting_of t;
  point = t.point;
  current = t.current;
  events = t.events.items;
  frames = reverse t.frames.items;
  scratch = t.scratch;
  flags = flags_of t;
  resolvers = t.resolvers.items;
}

-- what is at a point, as far as the text may be read
abbrev pub looks_at : Setting → Point → Option ℕ
looks_at x p = if nat_lt p.index x.limit then Some (seen_at x.bytes p) else None

abbrev pub looks : World → Option ℕ
looks w = looks_at w.setting w.point

-- a line is begun at its first byte, or after the prefixes of its containers
abbrev pub line_begun : Setting → Point → Point
line_begun x p = begun_at (slice_get x.skips (p.line - x.first_line)) p

-- the point after what is at a point
abbrev pub after : Setting → Point → Point
after x p =
    if is_ending (slice_index x.bytes p.index) then line_begun x (next_point x.bytes p) else next_point x.bytes p

-- a container of this kind, of which nothing is known yet
abbrev pub container_of : ContainerKind → Container
container_of k = record { kind = k; width = 0; starts_blank = false }

-- a tokenizer that has read nothing
abbrev pub fresh : List ℕ → ParseOptions → Point → World
fresh bytes options p = record {
  setting = record {
    bytes = bytes;
    options = options;
    limit = 0;
    first_line = p.line;
    skips = [];
    line = record { start = 0; lazy = false };
  };
  point = p;
  current = None;
  events = [];
  frames = [];
  scratch = REST;
  flags = record {
    leaf = held_leaf.None;
    blank = false;
    leaf_before = held_leaf.None;
    containers = [];
    continued = 0;
    asked = container_of first_kind;
    asked_column = 0;
    line_end = 0;
  };
  resolvers = [];
}

-- the next line begins at this point
abbrev pub skipping : World → Point → World
skipping w p = record w {
  setting = record w.setting { skips = w.setting.skips ++ p ∷ [] };
  point = if w.point.line == p.line then begun_at (Some p) w.point else w.point;
}

-- after those that are registered, or before them; each once
abbrev pub registered : List ResolveName → ResolveName → List ResolveName
registered names name =
    if list_any (λ (other : ResolveName). same_name other name) names then names else names ++ name ∷ []

abbrev pub registered_before : List ResolveName → ResolveName → List ResolveName
registered_before names name =
    if list_any (λ (other : ResolveName). same_name other name) names then names else name ∷ names

-- the text may be read up to here
abbrev pub reads_to : World → ℕ → World
reads_to w to = record w { setting = record w.setting { limit = to } }

-- the containers after so many end before the event at an index, and at its point; where there is none, at this point
abbrev pub closed_events : ℕ → ℕ → List Container → List Event → Point → List Event
closed_events keep at containers events p = put at (ends_at (drop keep containers) (point_of (drop at events) p)) events

abbrev pub kept : ℕ → Flags → Flags
kept keep g = record g { containers = take keep g.containers }

abbrev pub closed : World → ℕ → ℕ → World
closed w keep at = record w {
  events = closed_events keep at w.flags.containers w.events w.point;
  flags = kept keep w.flags;
}
