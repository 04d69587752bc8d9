-- Events of no block that is set.
use Rattle.std.proofs.Common.{◌≡◌, false, true, not, ◌&&◌, refl, ap}
use Rattle.std.proofs.lemmas.Bool.{and_right}
use Rattle.md_engine.specs.declared.event.Event.{Event}
use Rattle.md_engine.specs.declared.event.Kind.{Kind}
use Rattle.md_engine.specs.declared.event.Kind.TheVariants.{Enter, Exit}
use Rattle.md_engine.specs.declared.event.Name.{Name}
use Rattle.md_engine.specs.declared.event.Name.TheVariants as n
use Rattle.md_containers.specs.Listed.{is_item}
use Rattle.md_leaves.specs.HeadingText.{begins, ends, is_heading}
use Rattle.md_leaves.specs.Turned.{is_underline, passes as is_unturned}
use Rattle.md_order.specs.Alone.{is_set}
use Rattle.md_order.specs.Left.{is_passed, is_same}
use Rattle.md_order.specs.declared.wanted.Wanted.{Wanted}
use Rattle.md_order.proofs.Names.{bare-unturned, tableless, unset-bare, unset-item}
use Rattle.md_events.specs.Events.Nested.{is_enter, is_exit}
use Rattle.md_events.specs.Events.Spelled.{role}
use Rattle.md_tables.specs.Tabled.{begins_table, bound_of}

-- an event that is of none of them passes
pub passed-by : (w : Wanted) (e : Event) → (w.items && is_item (role e.name)) ≡ false →
    (w.atx && begins is_heading e) ≡ false → (w.setext && not (is_unturned e)) ≡ false →
    (w.tables && begins_table (bound_of e)) ≡ false → is_passed w e ≡ true
passed-by w e a b c d = rw (a, b, c, d) refl

-- one that is in no block that is set, nor an underline, stays where it is
pub same-by : (w : Wanted) (e : Event) → (w.items && is_item (role e.name)) ≡ false →
    (w.atx && begins is_heading e) ≡ false → (w.setext && is_underline e.name) ≡ false →
    (w.tables && begins_table (bound_of e)) ≡ false → is_same w e ≡ true
same-by w e a b c d = rw (a, b, c, d) refl

-- others pass
pub unset-passed : (w : Wanted) (e : Event) → is_set e.name ≡ false → is_passed w e ≡ true
unset-passed w e h =
    passed-by w e (and_right w.items _ (unset-item e.name h))
    (and_right w.atx _ (and_right (is_enter e.kind) _ (unset-bare e.name h).heading))
    (and_right w.setext _ (ap not (bare-unturned e (unset-bare e.name h))))
    (and_right w.tables _ (tableless e.kind e.name (unset-bare e.name h).table))

-- and so does the end of an ATX heading
pub end-passed : (w : Wanted) (e : Event) → ends is_heading e ≡ true → is_passed w e ≡ true
end-passed w e h = go e.kind e.name h
  where
    go : (kind : Kind) (name : Name) → (is_exit kind && is_heading name) ≡ true →
        is_passed w (record e { kind = kind; name = name }) ≡ true
    go Exit n.HeadingAtx k =
        passed-by w (record e { kind = Exit; name = n.HeadingAtx }) (and_right w.items _ refl) (and_right w.atx _ refl)
        (and_right w.setext _ refl) (and_right w.tables _ refl)
    go Exit _ k = absurd (let bad : false ≡ true = k in cc)
    go Enter name k = absurd (let bad : false ≡ true = k in cc)
