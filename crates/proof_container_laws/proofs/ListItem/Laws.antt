-- The laws of list items, as containers.
use Rattle.std.proofs.Common.{◌≡◌, ◌+◌, ◌≤◌, ℕ, Bool, true, false, cond, not, ◌&&◌, ◌||◌, refl}
use Rattle.std.proofs.Common.{sym, ap, subst, ◌∙◌, List, [], length, arith}
use Rattle.std.specs.Prelude.{Option, Some, None}
use Rattle.md_engine.specs.declared.configuration.ParseOptions.{ParseOptions}
use Rattle.md_engine.specs.declared.tokenizer.container.Container.{Container as Held}
use Rattle.md_engine.specs.declared.tokenizer.container.name.ContainerKind.TheVariants as kind
use Rattle.md_containers.specs.ItemPrefix.{item_holds}
use Rattle.md_containers.proofs.ItemHeld.{item-empty, item-looked}
use Rattle.md_containers.proofs.ItemShorter.{further-shortens, item-shortens}
use Rattle.md_meaning.specs.Containers.{Marker, Taken, continues, item_by, list_marker, may_interrupt, opens_item}
use Rattle.md_meaning.specs.Leaves.{is_rule}
use Rattle.md_meaning.specs.Preamble.{rest_at}
use Rattle.md_meaning.specs.Rest.{Rest, following, after_indent, has_small_indent, indent, is_blank, is_parted}
use Rattle.md_meaning.specs.State.{Container, InItem, container_block}
use Rattle.md_outline.specs.HeadingDepths.{is_shallow}
use Rattle.proof_container_laws.specs.Containers.ListItem.{item_rules}
use Rattle.proof_frame.specs.ContainerNames.{IsOf}
use Rattle.proof_frame.proofs.ContainerLaws.{ContainerLaws}
use Rattle.proof_container_laws.proofs.ListItem.Fronts.{item-begins, item-proceeds}
use Rattle.proof_container_laws.proofs.ListItem.Trial.{each-held, each-item, further-ended, further-holds}
use Rattle.proof_container_laws.proofs.ListItem.Trial.{further-passed, further-tried, new-ended, new-holds, new-passed}
use Rattle.proof_container_laws.proofs.ListItem.Trial.{new-tried, wide-one}

-- By the line definition what opens is an item that is a column wide at least.

abbrev IsOne : Option Taken → Type 0
IsOne None = Unit {0}
IsOne (Some t) = IsOf kind.ListItem t.container

one-if : (x : Bool) (a b : Option Taken) → IsOne a → IsOne b → IsOne (cond x a b)
one-if true a b h k = h
one-if false a b h k = k

by-marker : (options : ParseOptions) (interrupting : Bool) (before : ℕ) (from : Rest) (o : Option Marker) →
    IsOne (item_by options interrupting before from o)
by-marker options interrupting before from None = tt
by-marker options interrupting before from (Some marker) =
    one-if
    (is_parted after.bytes && not (options.constructs.thematic_break && is_rule from.bytes)
    && (not interrupting || may_interrupt marker after)) _ _
    (wide-one marker.digits marker.byte _ (is_blank after.bytes) (omega arith)) tt
  where
    after : Rest
    after = following (length marker.digits + 1) from

opens-one : (options : ParseOptions) (interrupting : Bool) (r : Rest) → IsOne (opens_item options interrupting r)
unfolding opens_item
opens-one options interrupting r =
    let from = after_indent r in
    one-if (options.constructs.list_item && has_small_indent options r) _ _
    (by-marker options interrupting (indent r) from (list_marker from.bytes)) tt

found : (o : Option Taken) (t : Taken) → IsOne o → o ≡ Some t → IsOf kind.ListItem t.container
found o t h e = subst IsOne e h

pub item-laws : ContainerLaws kind.ListItem item_rules
item-laws = record {
  begins_is = λ options interrupting cells h rest asked column by_flags.
      new-tried options interrupting cells h rest asked column by_flags;
  continues_is = λ options held c cells h rest asked column is holds.
      further-tried held c cells h rest asked holds.0 holds.1;
  begins_looked = λ options cells h b rest seen other. item-looked options cells h b rest seen other;
  continues_looked = λ options cells h b rest seen other. cc;
  begins_shorter = λ options cells h. item-shortens options cells h;
  continues_shorter = λ options cells h ends. further-shortens cells h ends;
  opened = λ options interrupting cells p t e. new-passed options interrupting cells p t e;
  proceeded = λ options c cells p t is e. further-passed c cells p t is e;
  held_new = λ options interrupting cells p t e. new-holds options interrupting cells p t e;
  held_on = λ options held c cells p t holds e. further-holds held c cells p t holds.1 e;
  opens_agrees = λ options interrupting. item-begins options interrupting;
  proceeds_agrees = item-proceeds;
  found_one = λ options interrupting r t e.
      found (opens_item options interrupting r) t (opens-one options interrupting r) e;
  opens_not = λ options interrupting cells p ends. new-ended options interrupting cells p ends;
  continues_over = λ options held c cells p is holds ends. further-ended held c cells p holds.0 holds.1 ends;
  over_empty = λ options held c column is holds. over options held column c holds.1;
  over_kind = λ held. refl;
  may_hold = each-item (λ c. (held : Held) × item_rules.holds held c) may_hold;
  shallow = λ c bs is h. each-item (λ d. is_shallow (container_block d bs) ≡ true)
      (λ digits marker width blank some. h) c is;
}
  where
    may_hold : (digits : List ℕ) (marker width : ℕ) (blank : Bool) → 1 ≤ width →
        (held : Held) × item_rules.holds held (InItem digits marker width blank)
    may_hold digits marker width blank some =
        (record { width = width; kind = kind.ListItem; starts_blank = blank }, (refl, (refl, refl, some)))

    over : (options : ParseOptions) (held : Held) (column : ℕ) (c : Container) → item_holds held c →
        continues options c (rest_at column []) ≡
        cond (not held.starts_blank) (Some (record { container = c; rest = rest_at column [] })) None
    over options held column = each-held held
        (λ c. continues options c (rest_at column []) ≡
        cond (not held.starts_blank) (Some (record { container = c; rest = rest_at column [] })) None)
        (λ digits marker width blank e f some.
        item-empty digits marker width blank column
        ∙ ap (λ (x : Bool). cond (not x) (taken (InItem digits marker width blank) column) None) (sym f))
      where
        taken : Container → ℕ → Option Taken
        taken c column = Some (record { container = c; rest = rest_at column [] })
