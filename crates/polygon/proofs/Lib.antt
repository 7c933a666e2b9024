mod Fans
mod Filled
mod Order
