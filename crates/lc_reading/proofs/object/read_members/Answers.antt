use Rattle.std.proofs.Common.{ap, ◌∷◌, ◌∙◌, option_map}
use Rattle.json.proofs.Grammar.{key_token}
use Rattle.lc_reading.proofs.ObjectsRead.{all_members_read, member_more, members_none}
use Rattle.lc_reading.proofs.object.read_members.Goals as goal

pub members-init : goal.members-init
members-init c =
    members_none c.args.attributes.now c.no_members-object.result c.args.reader.now
    (c.no_members-object.ensures c.args.attributes.now)

pub members-preserved : goal.members-preserved
members-preserved c =
    member_more c.args.attributes.now c.members.object c.read_member.new.object c.args.reader.now c.members.reader c.next_key.new.reader
    c.read_member.new.reader c.in-Some.key.now c.members.invariant
    (c.in_ok-key.ensures ∙ ap (λ k. key_token (option_map (λ s. s.now) k) ∷ c.next_key.new.reader) c.in-Some.is)
    c.in_ok-read_member.ensures

pub returns : goal.returns
returns c =
    all_members_read c.args.attributes.now c.members.object c.args.reader.now c.members.reader c.next_key.new.reader c.members.invariant
    (c.in_ok-key.ensures ∙ ap (λ k. key_token (option_map (λ s. s.now) k) ∷ c.next_key.new.reader) c.in_default.is)
