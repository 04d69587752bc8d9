-- The begin of an item without a number, taken at once.
use Rattle.std.specs.Prelude.{◌≡◌, ℕ, ◌+◌, ◌<◌, true, false, ◌==◌, length, slice_index}
use Rattle.md_engine.specs.declared.event.Name.TheVariants.{ListItem, ListItemMarker, ListItemPrefix, SpaceOrTab}
use Rattle.md_engine.specs.Place.{is_ending}
use Rattle.md_engine.specs.Run.{reading}
use Rattle.md_engine.specs.World.{World}
use Rattle.md_meaning.specs.Containers.{is_bullet}
use Rattle.md_meaning.specs.Rest.{is_white}
use Rattle.md_containers.specs.Item.{item_held, unseen}
use Rattle.md_events.specs.Spaces.{calmed}
use Rattle.md_events.specs.Transition.{entered, exited, taken}

-- the byte that is so much further
abbrev pub byte_at : World → ℕ → ℕ
byte_at w k = slice_index w.setting.bytes (w.point.index + k)

-- items are on; a bullet and one space are here, and after them another byte than this bullet, whitespace or an ending,
-- which may be read: so no thematic break is here
pub record IsPlainBullet (w : World) : Type 0 where
  pub on : w.setting.options.constructs.list_item ≡ true
  pub bullet : is_bullet (slice_index w.setting.bytes w.point.index) ≡ true
  pub space : byte_at w 1 ≡ 32
  pub other : (byte_at w 2 == slice_index w.setting.bytes w.point.index) ≡ false
  pub dark : is_white (byte_at w 2) ≡ false
  pub filled : is_ending (byte_at w 2) ≡ false
  pub inside : w.point.index + 2 < w.setting.limit
  pub there : w.point.index + 2 < length w.setting.bytes

-- its marker was taken,
abbrev pub bullet_marked : World → World
bullet_marked w =
    exited (taken (entered (entered (entered w ListItem) ListItemPrefix) ListItemMarker)) ListItemMarker

-- and its space; the item is held, and what follows it is seen
abbrev pub bulleted : World → World
bulleted w =
    let v : World = exited (taken (entered (bullet_marked w) SpaceOrTab)) SpaceOrTab in
    reading
    (record (exited v ListItemPrefix) {
      scratch = unseen (calmed w.scratch);
      flags = item_held w.flags v.point.column false;
    })
