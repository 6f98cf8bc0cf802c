-- The addresses of a connection: profile.
use Rattle.std.specs.{Net.Addr.{ipv4_octets, ipv6_octets}, Prelude.{Bool, [], ◌∷◌, Option, Some, None}}
use Rattle.std.specs.declared.net.ip_addr.IpAddr.{IpAddr}
use Rattle.std.specs.declared.net.ip_addr.IpAddr.TheVariants as address
use Rattle.portmap_core.specs.{Locality.is_local_to, declared.locality.Ip.{Ip, TheVariants.{V4, V6}}}

-- The address in the form that the port mapper compares.
abbrev pub ip_of : IpAddr → Ip
ip_of (address.V4 ip) = V4 (ipv4_octets ip)
ip_of (address.V6 ip) = V6 (ipv6_octets ip)

-- The peer is on this host. If the connection's own address is unknown, 0.0.0.0 stands for it, which no peer has.
abbrev pub is_local_by : IpAddr → Option IpAddr → Bool
is_local_by peer (Some own) = is_local_to (ip_of peer) (ip_of own)
is_local_by peer None = is_local_to (ip_of peer) (V4 (0 ∷ 0 ∷ 0 ∷ 0 ∷ []))
