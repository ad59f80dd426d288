use Rattle.std.proofs.Common.{rules, tests}
use Rattle.std.proofs.lemmas.Iterator.{YieldsList-from_slice}
use Rattle.std.proofs.lemmas.Iterator.Search.{find_from_yields_List}
use Rattle.perm_tree.specs.declared.ast.ClassDecl.{ClassDecl}
use Rattle.perm_tree.specs.Spelling.{is_word, main_word}
use Rattle.perm_table.proofs.run.main_among.Goals as goal

pub returns : goal.returns
returns c =
    find_from_yields_List (λ (d : ClassDecl). is_word c.args.names.now main_word d.name.name) _ _ c.find.result c.find.ensures.ran (YieldsList-from_slice _ c.iter.ensures.rest) (λ x b q k. search (rules, tests))
