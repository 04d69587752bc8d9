use Rattle.std.proofs.Common.{◌≡◌, ◌≢◌, ◌<◌, ◌∙◌, true, ap, inr, is_ok, refl, rules, subst, sym}
use Rattle.md_engine.specs.declared.state.document.State.TheVariants as document
use Rattle.md_engine.specs.declared.state.Name.TheVariants as n
use Rattle.md_engine.specs.declared.state.State.TheVariants.{Error}
use Rattle.md_engine.specs.declared.tokenizer.container.Container.{Container}
use Rattle.md_engine.specs.declared.tokenizer.container.name.ContainerKind.{ContainerKind}
use Rattle.md_engine.specs.declared.tokenizer.container.name.ContainerKind.TheVariants as kind
use Rattle.md_engine.specs.World.{World, container_of, looks, world}
use Rattle.md_engine.proofs.Loops.{ArrivedHere, ArrivedAt, arrived-first}
use Rattle.md_engine.proofs.StayLemmas.{within-world}
use Rattle.md_containers.specs.PlainBullet.{bulleted}
use Rattle.md_containers.proofs.PlainBullet.{bullet-next}
use Rattle.md_registry.specs.LineFlags.{asking}
use Rattle.md_registry.specs.Registry.{opener_front, openers}
use Rattle.md_registry.specs.States.{FlowStep}
use Rattle.md_registry.proofs.LinesAtOnce.{ends-following}
use Rattle.md_registry.proofs.OpensAtOnce.{bullet-opens}
use Rattle.md_tables.proofs.RowWords.{on-ok}
use Rattle.md_at_once.proofs.FlowRuns.{run-short}
use Rattle.md_at_once.proofs.WantOfMemory.{containers-want, events-short, wants-following}
use Rattle.md_at_once.proofs.at_once.opens_at_once.Goals as goal

pub returns : goal.returns
returns c =
    run-short (n.Document (opener_front openers)) (world c.args.tokenizer.now) c.take_plain_bullet.new.tokenizer
    (events-short c.take_plain_bullet.new.tokenizer (c.take_plain_bullet.ensures.full (search rules)))

pub returns-2 : goal.returns-2
returns-2 c =
    let first = n.Document (opener_front openers) in
    let w = world c.args.tokenizer.now in
    let u = world c.take_plain_bullet.new.tokenizer in
    let asks : world c.ask.new.tokenizer ≡ asking (container_of kind.ListItem) w =
    c.ask.ensures ∙ ap (λ (x : Container). asking x w) c.new.ensures
    ∙ ap (λ (k : ContainerKind). asking (container_of k) w) c.plain_opener.ensures in
    let has_taken : is_ok c.take_plain_bullet.result ≡ true = c.if-or_error.ensures.negation in
    let is : u ≡ bulleted (asking (container_of kind.ListItem) w) =
    on-ok c.take_plain_bullet.result (u ≡ bulleted (world c.ask.new.tokenizer)) has_taken
    c.take_plain_bullet.ensures.world
    ∙ ap bulleted asks in
    let arrived : ArrivedHere FlowStep first w (n.Document document.ContainerNewAfter) u = λ is_end s v named from may.
    subst (λ (x : World). ArrivedAt FlowStep is_end s v (n.Document document.ContainerNewAfter) x) (sym is)
    (bullet-opens is_end s v w (arrived-first FlowStep first w is_end s v named from may)
    c.requires.at.current (within-world c.args.tokenizer.now) c.requires.plain) in
    let next = bullet-next w c.requires.plain in
    let all = λ (fine : c.container_new_after.result ≢ Error).
    ends-following first (n.Document document.ContainerNewAfter) w u c.container_new_after.result
    (world c.container_new_after.new.tokenizer) arrived ((refl, refl), refl) (c.container_new_after.ensures.to fine)
    (c.container_new_after.ensures.world fine) fine (subst (λ (x : World). x.current ≡ looks x) (sym is) refl)
    (within-world c.take_plain_bullet.new.tokenizer)
    (inr (subst (λ (x : World). x.point.index < x.setting.limit) (sym is) next)) in
    record {
      runs = λ fine. (all fine).0;
      sees = λ fine. (all fine).1;
      full =
          wants-following first (n.Document document.ContainerNewAfter) w u c.container_new_after.result
          c.container_new_after.new.tokenizer arrived
          (containers-want (n.Document document.ContainerNewAfter) u c.container_new_after.result
          c.container_new_after.new.tokenizer c.container_new_after.ensures.full);
    }
