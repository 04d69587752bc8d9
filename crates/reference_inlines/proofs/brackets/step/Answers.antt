use Rattle.std.proofs.Common.{map, ap, ◌∙◌}
use Rattle.std.specs.Prelude.{not, option_map, reverse, string_bytes}
use Rattle.std.proofs.lemmas.Result.{on_ok_weaker}
use Rattle.md_inlines.specs.Content.{has_form}
use Rattle.reference_inlines.specs.Found.{atom_forest}
use Rattle.reference_inlines.specs.Nodes.{len_of_all}
use Rattle.reference_inlines.specs.Pairs.{made_of}
use Rattle.reference_inlines.specs.Reading.{added, state_of}
use Rattle.reference_inlines.proofs.StateLemmas.{atom-goes, close-goes, open-goes, open_is, reverse_push, run-goes}
use Rattle.reference_inlines.proofs.StateLemmas.{text-goes}
use Rattle.reference_inlines.proofs.brackets.step.Goals as goal

pub returns-in_ok-len-in-Atom : goal.returns-in_ok-len-in-Atom
returns-in_ok-len-in-Atom c =
    on_ok_weaker c.add.result
    (λ read.
    atom-goes c.args.options.now (has_form (map string_bytes c.args.labels.definitions.now))
    (has_form (map string_bytes c.args.labels.footnotes.now)) c.args.text.now (state_of c.args.reading.now)
    (state_of c.add.new.reading) (not c.is_empty-inside.result) c.front-before.result.now c.after-rest.result.now
    c.args.byte c.args.following.now
    (open_is c.args.reading.now.stack.items c.args.reading.now.stack.len c.is_empty-inside.result
    c.is_empty-inside.ensures c.args.reading.now.stack.ok.0)
    c.front-before.ensures c.after-rest.ensures c.requires
    (atom_forest c.in-Atom.found) c.in_ok-nodes-in-Atom.nodes.items c.in_ok-len-in-Atom.len c.in-Atom.ensures
    c.in_ok-nodes-in-Atom.ensures (c.in_ok-len-in-Atom.ensures ∙ ap len_of_all c.deref.ensures.value)
    (read ∙ ap (λ l. added (state_of c.args.reading.now) l c.in_ok-len-in-Atom.len) c.deref-in-Atom.ensures.value))
    c.add.ensures

pub returns-in-Run : goal.returns-in-Run
returns-in-Run c =
    on_ok_weaker c.add-in-Run.result
    (λ read.
    run-goes c.args.options.now (has_form (map string_bytes c.args.labels.definitions.now))
    (has_form (map string_bytes c.args.labels.footnotes.now)) c.args.text.now (state_of c.args.reading.now)
    (state_of c.add-in-Run.new.reading) (not c.is_empty-inside.result) c.front-before.result.now
    c.after-rest.result.now c.args.byte c.args.following.now
    (open_is c.args.reading.now.stack.items c.args.reading.now.stack.len c.is_empty-inside.result
    c.is_empty-inside.ensures c.args.reading.now.stack.ok.0)
    c.front-before.ensures c.after-rest.ensures
    c.requires c.in-Run.run' c.in-Run.ensures read)
    c.add-in-Run.ensures

pub returns-in-Text : goal.returns-in-Text
returns-in-Text c =
    on_ok_weaker c.add-in-Text.result
    (λ read.
    text-goes c.args.options.now (has_form (map string_bytes c.args.labels.definitions.now))
    (has_form (map string_bytes c.args.labels.footnotes.now)) c.args.text.now (state_of c.args.reading.now)
    (state_of c.add-in-Text.new.reading) (not c.is_empty-inside.result) c.front-before.result.now
    c.after-rest.result.now c.args.byte c.args.following.now
    (open_is c.args.reading.now.stack.items c.args.reading.now.stack.len c.is_empty-inside.result
    c.is_empty-inside.ensures c.args.reading.now.stack.ok.0)
    c.front-before.ensures c.after-rest.ensures
    c.requires c.in-Text.ensures read)
    c.add-in-Text.ensures

pub returns-in-Opens : goal.returns-in-Opens
returns-in-Opens c =
    on_ok_weaker c.open_by.result
    (λ read.
    open-goes c.args.options.now (has_form (map string_bytes c.args.labels.definitions.now))
    (has_form (map string_bytes c.args.labels.footnotes.now)) c.args.text.now (state_of c.args.reading.now)
    (state_of c.open_by.new.reading) (not c.is_empty-inside.result) c.front-before.result.now
    c.after-rest.result.now c.args.byte c.args.following.now
    (open_is c.args.reading.now.stack.items c.args.reading.now.stack.len c.is_empty-inside.result
    c.is_empty-inside.ensures c.args.reading.now.stack.ok.0)
    c.front-before.ensures c.after-rest.ensures
    c.requires c.in-Opens.len c.in-Opens.ensures read)
    c.open_by.ensures

pub returns-in_ok-made-in-Closes : goal.returns-in_ok-made-in-Closes
returns-in_ok-made-in-Closes c =
    on_ok_weaker c.close_by.result
    (λ read.
    close-goes c.args.options.now (has_form (map string_bytes c.args.labels.definitions.now))
    (has_form (map string_bytes c.args.labels.footnotes.now)) c.args.text.now (state_of c.args.reading.now)
    (state_of c.close_by.new.reading) (not c.is_empty-inside.result) c.front-before.result.now
    c.after-rest.result.now c.args.byte c.args.following.now
    (open_is c.args.reading.now.stack.items c.args.reading.now.stack.len c.is_empty-inside.result
    c.is_empty-inside.ensures c.args.reading.now.stack.ok.0)
    c.front-before.ensures c.after-rest.ensures
    c.requires c.in-Some.opened (reverse c.pop.new.self.items) (option_map made_of c.in_ok-made-in-Closes.made)
    c.in-Closes.ensures
    (ap reverse c.in-Some.ensures.items ∙ reverse_push c.pop.new.self.items c.in-Some.opened)
    c.in_ok-made-in-Closes.ensures read)
    c.close_by.ensures
