use Rattle.key_cover.proofs.Marks.{keys_after, key_found}
use Rattle.key_cover.proofs.walking.is_key.Goals as goal

pub every-preserved : goal.every-preserved
every-preserved c = keys_after c.args.keys.now c.every.key-index c.key-item.result c.args.read _ c.is_this.result c.every-test.true c.key-item.is c.is_this.ensures c.if-is_this.false c.every.invariant

pub returns-then-is_this : goal.returns-then-is_this
returns-then-is_this c = key_found c.args.keys.now c.every.key-index c.key-item.result c.args.read _ c.is_this.result c.every-test.true c.key-item.is c.is_this.ensures c.if-is_this.true c.every.invariant
