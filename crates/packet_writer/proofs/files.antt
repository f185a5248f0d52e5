-- Laws of the forms of packets.
mod Forms
