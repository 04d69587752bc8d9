use Rattle.std.proofs.Common.{◌≡◌, ◌++◌, ◌∷◌, ℕ, List, [], ap, arith, subst, ◌∙◌}
use Rattle.md_engine.specs.declared.event.Event.{Event}
use Rattle.md_engine.specs.declared.event.Name.TheVariants.{GfmTable}
use Rattle.md_engine.specs.World.{Setting, World, fresh, world}
use Rattle.md_events.specs.Events.Nested.{enter}
use Rattle.md_events.specs.Parts.{ArePlaced}
use Rattle.md_events.proofs.Settings.{flushes-setting}
use Rattle.md_tables.proofs.HeadRuns.{head-whole}
use Rattle.md_tables.proofs.heads.read_head.Goals as goal

pub returns : goal.returns
returns c =
    let bytes = c.args.bytes.now in
    let begun : world c.enter.new.self ≡
    record (fresh bytes c.args.options.now c.args.first) { events = enter GfmTable c.args.first ∷ [] } =
    with-begin _ _ _ _ _ (rw c.replace-list.ensures.value c.clear.ensures.items) c.new-tokenizer.ensures
    c.set_events.ensures c.in_ok-enter.ensures.world in
    let pushed = c.push.ensures.setting c.in_default.not-Error in
    let kept = flushes-setting _ _ _ _ _ _ _
    (record { setting = λ n w f v r. ap (λ (x : World). x.setting) r.1 }) c.in_ok-flush.ensures in
    let same : c.exit.new.self.bytes.now ≡ bytes = ap (λ (w : World). w.setting.bytes) c.in_ok-exit.ensures.world
    ∙ ap (λ (x : Setting). x.bytes) kept ∙ ap (λ (x : Setting). x.bytes) pushed
    ∙ ap (λ (w : World). w.setting.bytes) begun in
    record {
      events =
          head-whole bytes c.args.options.now c.args.first c.args.after _ _ _ _ _ _ _
          (omega (arith, c.requires.after.sized, c.requires.after.index)) begun
          (c.push.ensures.runs c.in_default.not-Error) pushed c.in_ok-flush.ensures c.in_ok-exit.ensures.world;
      placed = subst (λ (b : List ℕ). ArePlaced b c.exit.new.self.events.items) same c.exit.new.self.sound.right;
    }
  where
    with-begin : (x y z w : World) (list : List Event) → list ≡ [] → x ≡ w → y ≡ record x { events = list } →
        z ≡ record y { events = y.events ++ enter GfmTable y.point ∷ [] } →
        z ≡ record w { events = enter GfmTable w.point ∷ [] }
    with-begin x y z w list none begun set entered =
        entered ∙ ap (λ (v : World). record v { events = v.events ++ enter GfmTable v.point ∷ [] })
        (set ∙ ap (λ (v : World). record v { events = list }) begun
        ∙ ap (λ (es : List Event). record w { events = es }) none)
