use Rattle.cstar_lexer.proofs.Longest.{suffix_l, suffix_lu, suffix_none, suffix_u, suffix_ul, within_suffix}
use Rattle.cstar_lexer.proofs.number.read_suffix.Goals as goal

pub returns-then-is_l : goal.returns-then-is_l
returns-then-is_l c = let longest = suffix_ul c.args.rest.now (cc) (cc) in record { within = within_suffix longest.suffix; longest = longest }

pub returns-else-is_l : goal.returns-else-is_l
returns-else-is_l c = let longest = suffix_u c.args.rest.now (cc) (cc) in record { within = within_suffix longest.suffix; longest = longest }

pub returns-then-unsigned : goal.returns-then-unsigned
returns-then-unsigned c = let longest = suffix_lu c.args.rest.now (cc) (cc) in record { within = within_suffix longest.suffix; longest = rw c.if-unsigned.true longest }

pub returns-else-unsigned : goal.returns-else-unsigned
returns-else-unsigned c = let longest = suffix_l c.args.rest.now (cc) (cc) in record { within = within_suffix longest.suffix; longest = rw c.if-unsigned.false longest }

pub returns-else-is_l-2 : goal.returns-else-is_l-2
returns-else-is_l-2 c = let longest = suffix_none c.args.rest.now (cc) (cc) in record { within = within_suffix longest.suffix; longest = longest }
