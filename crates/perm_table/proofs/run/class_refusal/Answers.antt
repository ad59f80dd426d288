use Rattle.std.proofs.Common.{◌∙◌, ap, sym}
use Rattle.std.specs.Prelude.{find, option_copied}
use Rattle.perm_tree.specs.declared.ast.Method.{Method}
use Rattle.perm_tree.specs.Names.{run_refusal}
use Rattle.perm_tree.specs.Spelling.{is_word, run_word}
use Rattle.perm_table.specs.Runs.{main_refusal}
use Rattle.perm_table.proofs.run.class_refusal.Goals as goal

pub returns : goal.returns
returns c =
    c.method_refusal.ensures
    ∙ ap run_refusal (c.run_among.ensures ∙ ap (find (λ (d : Method). is_word c.args.names.now run_word d.name.name)) c.as_slice.ensures)
    ∙ sym (ap (λ o. main_refusal c.args.names.now (option_copied o)) c.in-Some.is)
