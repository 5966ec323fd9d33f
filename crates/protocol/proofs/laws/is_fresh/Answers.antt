use Rattle.std.proofs.Common.{rules, not}
use Rattle.protocol.proofs.laws.is_fresh.Goals as goal
use Rattle.std.specs.Str.{bytes_eq}
use Rattle.std.proofs.lemmas.Iterator.Search.{all_from_yields_List}
use Rattle.std.proofs.lemmas.Iterator.{YieldsList-from_slice}
use Rattle.protocol.specs.declared.interface.Interface.{Interface}

pub returns : goal.returns
returns c = all_from_yields_List (λ (i : Interface). not (bytes_eq i.name.now c.args.name.now)) _ _ _ c.all.ensures.ran (YieldsList-from_slice _ c.iter.ensures.rest) (λ x b q k. search rules)
