-- `aliases::keys::put_kind` meets its contract, kind by kind. Assumes nothing.
use mathlib.Core.Path.{refl}
use Rattle.aliases.specs.Keys.{kind_key}
use Rattle.aliases.proofs.Slots.{put_is}
use Rattle.aliases.proofs.keys.put_kind.Goals as goal

pub returns-in-Language : goal.returns-in-Language
unfolding kind_key
returns-in-Language c = let p = c.put in put_is _ _ _ _ _ c.in-Language.is refl p.ensures.0 p.ensures.1

pub returns-in-Script : goal.returns-in-Script
unfolding kind_key
returns-in-Script c = let p = c.put-in-Script in put_is _ _ _ _ _ c.in-Script.is refl p.ensures.0 p.ensures.1

pub returns-in-Region : goal.returns-in-Region
unfolding kind_key
returns-in-Region c = let p = c.put-in-Region in put_is _ _ _ _ _ c.in-Region.is refl p.ensures.0 p.ensures.1

pub returns-in-Variant : goal.returns-in-Variant
unfolding kind_key
returns-in-Variant c = let p = c.put-in-Variant in put_is _ _ _ _ _ c.in-Variant.is refl p.ensures.0 p.ensures.1
